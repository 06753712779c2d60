-- Worked case: the page `[[X|{{t}}]] is`, where `Template:T` is a word, is of the class: texts are typed beside the link that holds its call.
use Rattle.std.proofs.Common.{arith, ◌≡◌, ◌<◌, ◌≤◌, inl, inr, ℕ, None, List, [], ◌∷◌, ◌++◌, length, refl, sym, ap, ◌∙◌, subst}
use Rattle.std.specs.Str.{is_utf8, chars}
use Rattle.std.specs.Str.Lossy.{utf8_valid_len}
use Rattle.std.proofs.lemmas.List.Elements.{All-nil, All-cons}
use Rattle.std.proofs.lemmas.Str.{IsUtf8-nil}
use lib.Utf8.{encode}
use Rattle.wt_span.specs.Comments.{comment_len, comment_line_len}
use Rattle.wt_span.specs.Entities.{entity_at, named_entity, decimal_entity, hex_entity, entity_names}
use Rattle.wt_span.specs.Tags.{raw_len, opening_tag, tag_after, closing_tag, with_inside, is_extension, include_at}
use Rattle.wt_span.specs.Items.{Item}
use Rattle.wt_span.specs.Lexemes.{sign_word, form_at, closed, words}
use Rattle.wt_span.specs.Braces.{rewritten, reduced, parts_of, calls, nesting}
use Rattle.wt_span.specs.Origins.{OuterCall}
use Rattle.wt_lines.specs.declared.kind.LineKind.TheVariants as line
use Rattle.wt_lines.specs.Kinds.{kind_of_signs, line_kind}
use Rattle.wt_braces.specs.Found.{too_deep}
use Rattle.wt_names.specs.Good.{is_forbidden, is_allowed, has_signature, is_step, begins_with_step, holds_step, ends_with_step, is_good, read_text}
use Rattle.wt_names.specs.Namespace.{name_of, image, is_called, namespace_named, prefix_of, full_name_of}
use Rattle.wt_names.specs.Reading.{whole_in, cut_namespace, title_in}
use Rattle.wt_names.specs.Written.{link_to}
use Rattle.wt_utf8.specs.Places.{not_utf8_place}
use Rattle.wt_inline.specs.declared.loose.Loose.TheVariants.{Text}
use Rattle.wt_inline.specs.ItemTree.{ItemTree}
use Rattle.wt_inline.specs.Parts.{Part, loose, children}
use Rattle.wt_tiles.specs.Links.{link_at, link_in, target_of}
use Rattle.wt_tiles.specs.Urls.{scheme_len, ext_link_at, bare_url_at}
use Rattle.wt_tiles.specs.Tags.{tag_at, opening_tag as opens_tag, closing_tag as closes_tag}
use Rattle.wt_tiles.specs.Tiles.{tag_tile, switch_at, link_or_url, form_at as tile_at, closed as closes, shapes, tiles}
use Rattle.wt_quotes.specs.Toggles.{toggle_at, toggles_of}
use Rattle.wt_quotes.specs.Styles.{style_tree_of}
use Rattle.wt_context.specs.Segments.{loose_segments}
use Rattle.wt_context.specs.Chunks.{chunks}
use Rattle.wt_context.specs.Styled.{with_styles}
use Rattle.wt_context.specs.Heads.{link_head}
use Rattle.wt_context.specs.Nodes.{nested_tree, segments}
use Rattle.wt_context.specs.Line.{context_parts, line_parts, line_trees}
use Rattle.wt_page.specs.Rows.{rows}
use Rattle.wt_page.specs.Texts.{para}
use Rattle.wt_page.specs.Body.{blocks, meaning}
use Rattle.wt_call_data.specs.CallData.{call_part, param_by, trimmed as trimmed_data}
use Rattle.wt_annotated.specs.Annotated.{annotated}
use Rattle.wt_annotated.specs.GroupData.{group_data}
use Rattle.wt_annotated.specs.Labels.{label_at}
use Rattle.wt_expand.specs.PageItems.{page_items}
use Rattle.wt_expand.specs.Texts.{trimmed, trimmed_items, name_text}
use Rattle.wt_expand.specs.Targets.{title_in_target, title_of_target, is_function, called}
use Rattle.wt_expand.specs.Templates.{begins_only, ends_only, template_text}
use Rattle.wt_expand.specs.Work.{deep_place, template_refusal, most_bytes, most_cost, first_refusal}
use Rattle.wt_expand.specs.Expansion.{text_members, most_templates, absent_text, loop_text, depth_text, page_work}
use Rattle.wt_expand.specs.Fronts.{allowed_work}
use Rattle.wt_expand.specs.PageCalls.{page_stretches, expanded_page}
use Rattle.wt_commands.specs.Answers.{refusal_of_page}
use Rattle.wt_part_laws.specs.CallPieces.{EachNode, call_pieces}
use Rattle.wt_part_laws.specs.Expanded.{part_items, GivesAnywhere}
use Rattle.wt_text_edit_laws.specs.BlockSpots.{BlockSpot}
use Rattle.wt_text_edit_laws.specs.Contents.{content_parts_of}
use Rattle.wt_text_edit_laws.specs.Paragraphs.{IsSeenLine}
use Rattle.wt_text_edit_laws.specs.ReadContents.{IsReadContent}
use Rattle.wt_text_edit_laws.specs.TextBlocks.{a_paragraph}
use Rattle.wt_text_edit_laws.proofs.Cuts.Seen.{stands_begins}
use Rattle.wt_beside_laws.proofs.Groups.CalledBlocks.{each_both}
use Rattle.wt_beside_laws.proofs.Groups.Cases.{a_word}
use Rattle.wt_called_edit_laws.specs.CalledContents.{AreTextItems}
use Rattle.wt_called_edit_laws.specs.CallingBlocks.{spots_with_calls, items_past}
use Rattle.wt_called_edit_laws.specs.Covered.{NoGroupAt, HasFreeByte}
use Rattle.wt_called_edit_laws.specs.EditableBlocks.{IsEditableWithCalls}
use Rattle.wt_called_edit_laws.specs.Groups.{called_tree}
use Rattle.wt_called_edit_laws.specs.InCells.{AreTextLines}
use Rattle.wt_called_edit_laws.specs.ItemSpots.{ArePlaced}
use Rattle.wt_called_edit_laws.specs.Parts.{calls_to, calls_past, AreCalled}
use Rattle.wt_called_edit_laws.specs.PartTexts.{AreSourcesAt}
use Rattle.wt_called_edit_laws.specs.PiecedParagraphs.{HasOwn, IsInPieces}
use Rattle.wt_called_edit_laws.specs.WholeContents.{AreGroups, AreShutParts, IsPartIn, ArePartsIn}
use Rattle.wt_called_edit_laws.proofs.Beside.EndCases.{called_at}
use Rattle.wt_called_edit_laws.proofs.Beside.RoundCases.{source, link_source, pieces, link, behind, given, items_are, gives_link, link_thing, round_link, stays, of_page, in_pieces, among}
use Rattle.wt_called_edit_laws.proofs.Whole.Contents.{thing_parts, round_shut_parts, shut_both}
use Rattle.wt_called_edit_laws.proofs.Whole.Pieced.{as_written, pieced_content, pieced_holds}

-- ---- the paragraph

abbrev text_parts : List Part
text_parts = loose Text None 32 ∷ loose Text None 105 ∷ loose Text None 115 ∷ []

abbrev parts : ℕ → List Part
parts i = line_parts (link i) ++ text_parts

parts_are : (i : ℕ) → content_parts_of a_paragraph (given i) ≡ parts i
unfolding context_parts chunks segments loose_segments tiles shapes closes tile_at link_or_url link_at ext_link_at bare_url_at scheme_len
    tag_tile tag_at switch_at with_styles style_tree_of toggles_of toggle_at opens_tag closes_tag children
    nested_tree link_head link_in target_of read_text is_allowed is_forbidden is_good has_signature is_step begins_with_step holds_step ends_with_step
    name_of image is_called namespace_named prefix_of full_name_of whole_in cut_namespace title_in utf8_valid_len is_utf8 chars encode link_to
parts_are i = refl

parts_there : (i : ℕ) → content_parts_of a_paragraph (part_items a_word i source) ≡ parts i
parts_there i = ap (content_parts_of a_paragraph) (items_are i) ∙ parts_are i

source_calls : (calls : List OuterCall) (i : ℕ) → AreSourcesAt calls i (expanded_page a_word source).outer → AreSourcesAt calls i (expanded_page a_word link_source).outer
unfolding words closed form_at comment_len comment_line_len raw_len opening_tag tag_after closing_tag with_inside is_extension
    include_at entity_at named_entity decimal_entity hex_entity entity_names sign_word reduced rewritten parts_of text_members trimmed
    trimmed_items name_text called most_templates is_function title_of_target title_in_target read_text is_allowed is_forbidden
    is_good has_signature is_step begins_with_step holds_step ends_with_step name_of image is_called namespace_named prefix_of
    full_name_of whole_in cut_namespace title_in template_text begins_only ends_only loop_text depth_text absent_text
    utf8_valid_len is_utf8 chars encode link_to page_stretches expanded_page
source_calls calls i a = (a.0, tt)

parts_in : (calls : List OuterCall) (i : ℕ) → AreSourcesAt calls i (expanded_page a_word source).outer → ArePartsIn calls (part_items a_word i source) (parts i)
parts_in calls i a =
    let all : List Item = part_items a_word i source in
    let P : ItemTree → Type 0 = λ (v : ItemTree). IsPartIn 2 calls all v in
    each_both P (line_parts (link i)) text_parts
    (subst (λ (xs : List Item). EachNode P (line_parts xs)) (gives_link i) (thing_parts 2 a_word calls all i link_thing (inr stays) refl (source_calls calls i a))) tt

groups_here : (i : ℕ) (xs : List Item) → AreGroups xs (call_pieces (children (parts i)))
unfolding context_parts chunks segments loose_segments tiles shapes closes tile_at link_or_url link_at ext_link_at bare_url_at scheme_len
    tag_tile tag_at switch_at with_styles style_tree_of toggles_of toggle_at opens_tag closes_tag children
    nested_tree link_head link_in target_of read_text is_allowed is_forbidden is_good has_signature is_step begins_with_step holds_step ends_with_step
    name_of image is_called namespace_named prefix_of full_name_of whole_in cut_namespace title_in utf8_valid_len is_utf8 chars encode link_to
groups_here i xs = tt

shut_here : (i : ℕ) → AreShutParts (parts i)
shut_here i = shut_both (line_parts (link i)) text_parts (round_shut_parts (link i) (round_link i)) tt

some_here : (i : ℕ) → HasOwn (parts i)
unfolding context_parts chunks segments loose_segments tiles shapes closes tile_at link_or_url link_at ext_link_at bare_url_at scheme_len
    tag_tile tag_at switch_at with_styles style_tree_of toggles_of toggle_at opens_tag closes_tag children
    nested_tree link_head link_in target_of read_text is_allowed is_forbidden is_good has_signature is_step begins_with_step holds_step ends_with_step
    name_of image is_called namespace_named prefix_of full_name_of whole_in cut_namespace title_in utf8_valid_len is_utf8 chars encode link_to
some_here i = inl refl

is_read : IsReadContent a_paragraph source
unfolding page_items words closed form_at comment_len comment_line_len raw_len opening_tag tag_after closing_tag with_inside include_at entity_at named_entity
    decimal_entity hex_entity entity_names sign_word encode
is_read = record {
  utf8 = (source, (refl, refl));
  ended = refl;
  unended = refl;
  begins = stands_begins source (record { uncommented = refl }) (record { uncommented = refl }) refl refl;
}

is_text : (i : ℕ) → AreTextItems (given i)
unfolding kind_of_signs
is_text i = record {
  seen = All-cons IsSeenLine (given i) [] refl (All-nil IsSeenLine);
  unled = refl;
  own_breaks = ((λ e. absurd (cc)), ((λ e. absurd (cc)), ((λ e. absurd (cc)), ((λ e. absurd (cc)), ((λ e. absurd (cc)), ((λ e. absurd (cc)), ((λ e. absurd (cc)), ((λ e. absurd (cc)), ((λ e. absurd (cc)), ((λ e. absurd (cc)), tt))))))))));
}

pub here : IsInPieces a_word source
here = record {
  pieces = pieces;
  is = refl;
  parts = in_pieces;
  nodes = link_thing ∷ [];
  things = of_page;
  among = among;
  read = is_read;
  lines = λ i. subst AreTextItems (sym (items_are i)) (is_text i);
  texts = λ calls i a. subst (ArePartsIn calls (part_items a_word i source)) (sym (parts_there i)) (parts_in calls i a);
  groups = λ i.
      let xs : List Item = part_items a_word i source in
      subst (λ (ps : List Part). AreGroups xs (call_pieces (children ps))) (sym (parts_there i)) (groups_here i xs);
  shut = λ i. subst AreShutParts (sym (parts_there i)) (shut_here i);
  some = λ i. subst HasOwn (sym (parts_there i)) (some_here i);
}

-- ---- the page

abbrev a_block : BlockSpot
a_block = record { before = []; block = a_paragraph; text = source }

anywhere : GivesAnywhere a_word source
anywhere = let w = as_written a_word source here in let part = w.part in part.anywhere

called_here : AreCalled a_word (a_block ∷ []) []
unfolding page_items words closed form_at comment_len comment_line_len raw_len opening_tag tag_after closing_tag with_inside include_at entity_at named_entity
    decimal_entity hex_entity entity_names sign_word is_extension reduced rewritten
called_here = (
  record { led = inl tt; before_utf8 = IsUtf8-nil; block = is_read },
  (record { uncommented = refl }, IsUtf8-nil, tt),
  record { end_before = (refl, inr tt, tt); anywhere = (anywhere, tt); apart = tt },
)

nothing : (i : ℕ) → part_items a_word i [] ≡ []
unfolding words closed text_members page_stretches reduced
nothing i = refl

stays_text : (i : ℕ) → AreTextLines 0 (given i)
unfolding kind_of_signs
stays_text i = All-cons (λ l. line_kind 0 l ≡ line.Text) (given i) [] refl (All-nil (λ l. line_kind 0 l ≡ line.Text))

placed_here : ArePlaced (spots_with_calls a_word 0 (a_block ∷ [])) (items_past a_word 0 (a_block ∷ []) [])
placed_here =
    let P : List Item → List Item → List Item → Type 0 = λ before xs behind. ArePlaced (record { before = before; block = a_paragraph; content = xs } ∷ []) behind in
    let n : ℕ = calls_past a_word 0 a_block in
    let at : ℕ = calls_to a_word 0 a_block in
    let own : P [] (given at) [] = ((is_text at, record { whole = inl refl; in_cells = tt; apart = tt }, inl (stays_text at)), tt) in
    subst (λ before. P before (part_items a_word at source) (part_items a_word n [])) (sym (nothing 0))
    (subst (λ xs. P [] xs (part_items a_word n [])) (sym (items_are at)) (subst (λ behind. P [] (given at) behind) (sym (nothing n)) own))

unrefused_here : refusal_of_page a_word source ≡ None
unfolding words closed form_at comment_len comment_line_len raw_len opening_tag tag_after closing_tag with_inside is_extension
    include_at entity_at named_entity decimal_entity hex_entity entity_names sign_word reduced rewritten text_members trimmed
    trimmed_items name_text called most_templates is_function title_of_target title_in_target read_text is_allowed is_forbidden
    is_good has_signature is_step begins_with_step holds_step ends_with_step name_of image is_called namespace_named prefix_of
    full_name_of whole_in cut_namespace title_in template_text begins_only ends_only loop_text depth_text absent_text page_work
    allowed_work deep_place too_deep calls nesting template_refusal most_bytes most_cost not_utf8_place utf8_valid_len
    is_utf8 chars encode first_refusal
unrefused_here = refl

-- the group of the call is behind `[[X|`
before_call : 0 < 4
before_call = omega arith

no_group_here : NoGroupAt 0 (called_tree a_word source)
unfolding words closed form_at comment_len comment_line_len raw_len opening_tag tag_after closing_tag with_inside is_extension
    include_at entity_at named_entity decimal_entity hex_entity entity_names sign_word reduced rewritten parts_of text_members trimmed
    trimmed_items name_text called most_templates is_function title_of_target title_in_target read_text is_allowed is_forbidden
    is_good has_signature is_step begins_with_step holds_step ends_with_step name_of image is_called namespace_named prefix_of
    full_name_of whole_in cut_namespace title_in template_text begins_only ends_only loop_text depth_text absent_text
    utf8_valid_len is_utf8 chars encode link_to page_stretches expanded_page kind_of_signs
    annotated group_data call_part param_by trimmed_data label_at meaning rows blocks children para line_trees
    context_parts chunks segments loose_segments tiles shapes closes tile_at link_or_url link_at ext_link_at bare_url_at scheme_len
    tag_tile tag_at switch_at with_styles style_tree_of toggles_of toggle_at opens_tag closes_tag nested_tree link_head link_in target_of
no_group_here = (((inl before_call, tt), (tt, tt)), tt)

free_here : HasFreeByte (called_tree a_word source) 0 (length source)
free_here =
    let low : 0 ≤ 0 = omega arith in
    let high : 0 < 14 = omega arith in
    (0, low, high, no_group_here)

-- So texts may be typed beside its link.
pub in_class : IsEditableWithCalls a_word (a_block ∷ []) []
in_class = record {
  blocks = record { called = called_here; contents = (pieced_content a_word source here, tt); placed = placed_here };
  contents = (inr (pieced_holds a_word source here), tt);
  unrefused = unrefused_here;
  free = (free_here, tt);
}
