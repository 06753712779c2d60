-- Worked case: the page's paragraph `x{{t}}y`, where `Template:T` is a word, is text and a call, and its node in the page's tree is one of which texts are
-- typed beside the call.
use Rattle.std.proofs.Common.{arith, ◌≡◌, ◌<◌, inl, inr, ℕ, Some, None, List, [], ◌∷◌, refl, sym, ap, ◌+◌, ◌∙◌, subst}
use Rattle.std.specs.Prelude.{codes}
use Rattle.std.specs.Str.{is_utf8, chars}
use Rattle.std.specs.Str.Lossy.{utf8_valid_len}
use Rattle.std.proofs.lemmas.List.Elements.{All-nil, All-cons}
use lib.Utf8.{encode}
use Rattle.wt_span.specs.Comments.{comment_len, comment_line_len}
use Rattle.wt_span.specs.Entities.{entity_at, named_entity, decimal_entity, hex_entity, entity_names}
use Rattle.wt_span.specs.Tags.{raw_len, opening_tag, tag_after, closing_tag, with_inside, is_extension, include_at}
use Rattle.wt_span.specs.Lexemes.{words, closed, sign_word, form_at}
use Rattle.wt_span.specs.Braces.{rewritten, reduced, parts_of}
use Rattle.wt_tree.specs.Plain.{Plains, text_before}
use Rattle.wt_span.specs.Items.{Item, char}
use Rattle.wt_names.specs.Good.{is_forbidden, is_allowed, has_signature, is_step, begins_with_step, holds_step, ends_with_step, is_good, read_text}
use Rattle.wt_names.specs.Namespace.{name_of, image, is_called, namespace_named, prefix_of, full_name_of}
use Rattle.wt_names.specs.Reading.{whole_in, cut_namespace, title_in}
use Rattle.wt_names.specs.Written.{link_to}
use Rattle.wt_lines.specs.Kinds.{kind_of_signs}
use Rattle.wt_inline.specs.declared.loose.Loose.TheVariants.{Text}
use Rattle.wt_inline.specs.ItemTree.{ItemTree}
use Rattle.wt_inline.specs.Parts.{Part, loose, loose_leaf, children}
use Rattle.wt_expand.specs.PageItems.{page_items}
use Rattle.wt_expand.specs.PageCalls.{page_stretches, expanded_page}
use Rattle.wt_expand.specs.Texts.{trimmed, trimmed_items, name_text}
use Rattle.wt_expand.specs.Targets.{title_in_target, title_of_target, is_function, called}
use Rattle.wt_expand.specs.Templates.{begins_only, ends_only, template_text}
use Rattle.wt_expand.specs.Expansion.{text_members, most_templates, absent_text, loop_text, depth_text}
use Rattle.wt_tiles.specs.Tags.{tag_at, opening_tag as opens_tag, closing_tag as closes_tag}
use Rattle.wt_tiles.specs.Tiles.{form_at as tile_at, link_or_url, tag_tile, switch_at, shapes, closed as closes, tiles}
use Rattle.wt_tiles.specs.Links.{link_at}
use Rattle.wt_tiles.specs.Urls.{scheme_len, ext_link_at, bare_url_at}
use Rattle.wt_context.specs.Chunks.{chunks}
use Rattle.wt_context.specs.Line.{context_parts, line_parts}
use Rattle.wt_context.specs.Nodes.{segments}
use Rattle.wt_context.specs.Segments.{loose_segments}
use Rattle.wt_context.specs.Styled.{with_styles}
use Rattle.wt_quotes.specs.Styles.{style_tree_of}
use Rattle.wt_quotes.specs.Toggles.{toggle_at, toggles_of}
use Rattle.wt_part_laws.specs.CallPieces.{AreOwnOrGiven, CallPiece, own, given, call_pieces}
use Rattle.wt_part_laws.specs.Expanded.{part_items}
use Rattle.wt_text_edit_laws.specs.Contents.{content_parts_of}
use Rattle.wt_text_edit_laws.specs.Paragraphs.{IsSeenLine}
use Rattle.wt_text_edit_laws.specs.ReadContents.{IsReadContent}
use Rattle.wt_text_edit_laws.specs.TextBlocks.{a_paragraph}
use Rattle.wt_beside_laws.proofs.Groups.Cases.{a_word, gives_char, gives_word}
use Rattle.wt_beside_laws.specs.Shown.{parts_shown_at}
use Rattle.wt_text_edit_laws.proofs.Cuts.Seen.{stands_begins}
use Rattle.wt_called_edit_laws.specs.CalledContents.{AreTextItems}
use Rattle.wt_called_edit_laws.specs.CalledEdits.{IsBesideCalls}
use Rattle.wt_called_edit_laws.specs.PartTexts.{AreSourcesAt}
use Rattle.wt_called_edit_laws.specs.PageThings.{AllMeetLater}
use Rattle.wt_called_edit_laws.specs.PiecedParagraphs.{HasOwn, IsGroupCall, all_pieces, IsTextAndCalls}
use Rattle.wt_called_edit_laws.specs.WholeContents.{AreShutParts}
use Rattle.wt_called_edit_laws.proofs.Beside.Cases.{source, pieces, in_pieces, a_call, block_by, shows_word, items_are, given as given_items, things_there}
use Rattle.wt_called_edit_laws.proofs.Beside.PageCases.{parts_here}
use Rattle.wt_called_edit_laws.proofs.Whole.TextAndCalls.{texts_beside}
use Rattle.wt_called_edit_laws.proofs.Written.Cases.{call_part, call_settles, call_sealed, call_utf8}

-- and what its pieces are
abbrev nodes : ℕ → List CallPiece
nodes i = own (loose_leaf Text (char None 120 ∷ [])) ∷ given i (loose_leaf Text (char (Some i) 98 ∷ [])) [] ∷ own (loose_leaf Text (char None 121 ∷ [])) ∷ []

nodes_are : (i : ℕ) → all_pieces a_word i pieces ≡ nodes i
unfolding words closed form_at comment_len comment_line_len raw_len opening_tag tag_after closing_tag with_inside is_extension
    include_at entity_at named_entity decimal_entity hex_entity entity_names sign_word reduced rewritten parts_of text_members trimmed
    trimmed_items name_text called most_templates is_function title_of_target title_in_target read_text is_allowed is_forbidden
    is_good has_signature is_step begins_with_step holds_step ends_with_step name_of image is_called namespace_named prefix_of
    full_name_of whole_in cut_namespace title_in template_text begins_only ends_only loop_text depth_text absent_text
    utf8_valid_len is_utf8 chars encode link_to page_stretches expanded_page
    context_parts chunks segments loose_segments tiles shapes closes tile_at link_or_url link_at ext_link_at bare_url_at scheme_len
    tag_tile tag_at switch_at with_styles style_tree_of toggles_of toggle_at opens_tag closes_tag children
nodes_are i = let same : i + 0 ≡ i = omega arith in ap nodes same

-- ---- its parts

abbrev parts : ℕ → List Part
parts i = loose Text None 120 ∷ loose Text (Some i) 98 ∷ loose Text None 121 ∷ []

parts_are : (i : ℕ) → content_parts_of a_paragraph (given_items i) ≡ parts i
unfolding context_parts chunks segments loose_segments tiles shapes closes tile_at link_or_url link_at ext_link_at bare_url_at scheme_len
    tag_tile tag_at switch_at with_styles style_tree_of toggles_of toggle_at opens_tag closes_tag
parts_are i = refl

parts_there : (i : ℕ) → content_parts_of a_paragraph (part_items a_word i source) ≡ parts i
parts_there i = ap (content_parts_of a_paragraph) (items_are i) ∙ parts_are i

pieces_are : (i : ℕ) → call_pieces (children (parts i)) ≡ nodes i
unfolding children
pieces_are i = refl

-- ---- it is such a paragraph

is_read : IsReadContent a_paragraph source
unfolding page_items words closed form_at comment_len comment_line_len raw_len opening_tag tag_after closing_tag with_inside include_at entity_at named_entity
    decimal_entity hex_entity entity_names sign_word encode
is_read = record {
  utf8 = (source, (refl, refl));
  ended = refl;
  unended = refl;
  begins = stands_begins source (record { uncommented = refl }) (record { uncommented = refl }) refl refl;
}

is_text : (i : ℕ) → AreTextItems (given_items i)
unfolding kind_of_signs
is_text i = record {
  seen = All-cons IsSeenLine (given_items i) [] refl (All-nil IsSeenLine);
  unled = refl;
  own_breaks = ((λ e. absurd (cc)), ((λ e. absurd (cc)), ((λ e. absurd (cc)), tt)));
}

-- it gives that word, and shows it
word_here : (i : ℕ) → ((t : ItemTree) × (ts : List ItemTree) × (children (line_parts (char (Some i) 98 ∷ [])) ≡ t ∷ ts))
unfolding context_parts chunks segments loose_segments tiles shapes closes tile_at link_or_url link_at ext_link_at bare_url_at scheme_len
    tag_tile tag_at switch_at with_styles style_tree_of toggles_of toggle_at opens_tag closes_tag children
word_here i = (loose_leaf Text (char (Some i) 98 ∷ []), [], refl)

same_word : (i j : ℕ) (rest : Plains)
    → parts_shown_at 0 [] (line_parts (part_items a_word i (codes "{{t}}"))) rest ≡ parts_shown_at 0 [] (line_parts (part_items a_word j (codes "{{t}}"))) rest
same_word i j rest = shows_there i ∙ sym (shows_there j)
  where
    shows_there : (k : ℕ) → parts_shown_at 0 [] (line_parts (part_items a_word k (codes "{{t}}"))) rest ≡ text_before (codes "b") rest
    shows_there k = ap (λ (xs : List Item). parts_shown_at 0 [] (line_parts xs) rest) (gives_char k) ∙ shows_word k rest

pub a_group_call : IsGroupCall a_word (codes "{{t}}")
a_group_call = record {
  gives = gives_word;
  nodes = λ i.
      subst (λ (xs : List Item). (t : ItemTree) × (ts : List ItemTree) × (children (line_parts xs) ≡ t ∷ ts)) (sym (gives_char i)) (word_here i);
  alike = same_word;
  call = record { others = codes "{t}}"; is = refl; settles = call_settles };
  begins = refl;
  ends = refl;
  part = call_part;
  sealed = call_sealed;
  shut = refl;
  utf8 = call_utf8;
}

calls_none : ((expanded_page a_word (codes "x")).outer ≡ []) × ((expanded_page a_word (codes "y")).outer ≡ [])
unfolding words closed form_at comment_len comment_line_len raw_len opening_tag tag_after closing_tag with_inside is_extension
    include_at entity_at named_entity decimal_entity hex_entity entity_names sign_word reduced rewritten parts_of text_members page_stretches expanded_page
calls_none = (refl, refl)

pub text_and_calls : IsTextAndCalls a_word source
text_and_calls = record {
  pieces = pieces;
  is = refl;
  parts = in_pieces;
  each = (inl calls_none.0, (inr a_group_call, (inl calls_none.1, tt)));
  read = is_read;
  lines = λ i. subst AreTextItems (sym (items_are i)) (is_text i);
  texts = λ i. subst AreOwnOrGiven (sym (parts_there i)) tt;
  groups = λ i. let p = parts_here i in p.groups;
  shut = λ i. subst AreShutParts (sym (parts_there i)) tt;
  some = λ i. subst HasOwn (sym (parts_there i)) tt;
  nodes = λ i. ap (λ (ps : List Part). call_pieces (children ps)) (parts_there i) ∙ pieces_are i ∙ sym (nodes_are i);
}

-- ---- and its node takes texts beside the call

sources_are : AreSourcesAt (a_call ∷ []) 0 (expanded_page a_word source).outer
unfolding words closed form_at comment_len comment_line_len raw_len opening_tag tag_after closing_tag with_inside is_extension
    include_at entity_at named_entity decimal_entity hex_entity entity_names sign_word reduced rewritten parts_of text_members trimmed
    trimmed_items name_text called most_templates is_function title_of_target title_in_target read_text is_allowed is_forbidden
    is_good has_signature is_step begins_with_step holds_step ends_with_step name_of image is_called namespace_named prefix_of
    full_name_of whole_in cut_namespace title_in template_text begins_only ends_only loop_text depth_text absent_text
    utf8_valid_len is_utf8 chars encode link_to page_stretches expanded_page
sources_are = (refl, tt)

pub beside_call : IsBesideCalls a_word a_paragraph source (block_by (part_items a_word 0 source))
beside_call =
    let some : 0 < 1 = omega arith in
    texts_beside a_word source (block_by (part_items a_word 0 source)) 1 0 0 (a_call ∷ []) some refl sources_are text_and_calls (subst (AllMeetLater a_word) (sym things_there) (tt, tt))
