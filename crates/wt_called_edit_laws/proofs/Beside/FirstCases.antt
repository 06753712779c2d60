-- Worked case: the page `{{t}} is`, where `Template:T` is a word, begins with a call: it is of the class, and texts are typed beside its call.
use Rattle.std.proofs.Common.{arith, ◌≡◌, ◌<◌, ◌≤◌, inl, inr, ℕ, None, List, [], ◌∷◌, length, refl, sym, subst, Some, ap, ◌∙◌}
use Rattle.std.specs.Str.{is_utf8, chars, IsUtf8}
use Rattle.std.specs.Str.Lossy.{utf8_valid_len}
use Rattle.std.proofs.lemmas.List.Elements.{All-nil, All-cons}
use Rattle.std.proofs.lemmas.Str.{IsUtf8-nil}
use lib.Utf8.{encode}
use Rattle.wt_span.specs.Comments.{comment_len, comment_line_len}
use Rattle.wt_span.specs.Entities.{entity_at, named_entity, decimal_entity, hex_entity, entity_names}
use Rattle.wt_span.specs.Tags.{raw_len, opening_tag, tag_after, closing_tag, with_inside, is_extension, include_at}
use Rattle.wt_span.specs.Items.{Item, char}
use Rattle.wt_span.specs.Lexemes.{sign_word, form_at, closed, words}
use Rattle.wt_span.specs.Braces.{rewritten, reduced, parts_of, calls, nesting}
use Rattle.wt_lines.specs.declared.kind.LineKind.TheVariants as line
use Rattle.wt_lines.specs.Kinds.{kind_of_signs, line_kind}
use Rattle.wt_braces.specs.Found.{too_deep}
use Rattle.wt_names.specs.Good.{is_forbidden, is_allowed, has_signature, is_step, begins_with_step, holds_step, ends_with_step, is_good, read_text}
use Rattle.wt_names.specs.Namespace.{name_of, image, is_called, namespace_named, prefix_of, full_name_of}
use Rattle.wt_names.specs.Reading.{whole_in, cut_namespace, title_in}
use Rattle.wt_names.specs.Written.{link_to}
use Rattle.wt_utf8.specs.Places.{not_utf8_place}
use Rattle.wt_inline.specs.Parts.{children, Part, loose, loose_leaf}
use Rattle.wt_tiles.specs.Links.{link_at}
use Rattle.wt_tiles.specs.Urls.{scheme_len, ext_link_at, bare_url_at}
use Rattle.wt_tiles.specs.Tags.{tag_at, opening_tag as opens_tag, closing_tag as closes_tag}
use Rattle.wt_tiles.specs.Tiles.{tag_tile, switch_at, link_or_url, form_at as tile_at, closed as closes, shapes, tiles}
use Rattle.wt_quotes.specs.Toggles.{toggle_at, toggles_of}
use Rattle.wt_quotes.specs.Styles.{style_tree_of}
use Rattle.wt_context.specs.Segments.{loose_segments}
use Rattle.wt_context.specs.Chunks.{chunks}
use Rattle.wt_context.specs.Styled.{with_styles}
use Rattle.wt_context.specs.Nodes.{segments}
use Rattle.wt_context.specs.Line.{context_parts, line_trees}
use Rattle.wt_page.specs.Rows.{rows}
use Rattle.wt_page.specs.Texts.{para}
use Rattle.wt_page.specs.Body.{blocks, meaning}
use Rattle.wt_call_data.specs.CallData.{call_part, param_by, trimmed as trimmed_data}
use Rattle.wt_annotated.specs.Annotated.{annotated}
use Rattle.wt_annotated.specs.GroupData.{group_data}
use Rattle.wt_annotated.specs.Labels.{label_at}
use Rattle.wt_expand.specs.PageItems.{page_items}
use Rattle.wt_expand.specs.Texts.{trimmed, trimmed_items, name_text}
use Rattle.wt_expand.specs.Targets.{title_in_target, title_of_target, is_function, called}
use Rattle.wt_expand.specs.Templates.{begins_only, ends_only, template_text}
use Rattle.wt_expand.specs.Work.{deep_place, template_refusal, most_bytes, most_cost, first_refusal}
use Rattle.wt_expand.specs.Expansion.{text_members, most_templates, absent_text, loop_text, depth_text, page_work}
use Rattle.wt_expand.specs.Fronts.{allowed_work}
use Rattle.wt_expand.specs.PageCalls.{page_stretches, expanded_page}
use Rattle.wt_commands.specs.Answers.{refusal_of_page}
use Rattle.wt_part_laws.specs.CallPieces.{AreOwnOrGiven, CallPiece, own, given as given_by, call_pieces}
use Rattle.wt_part_laws.specs.Expanded.{part_items, GivesAnywhere}
use Rattle.wt_text_edit_laws.specs.BlockSpots.{BlockSpot}
use Rattle.wt_text_edit_laws.specs.Contents.{content_parts_of}
use Rattle.wt_text_edit_laws.specs.Paragraphs.{IsSeenLine}
use Rattle.wt_text_edit_laws.specs.ReadContents.{IsReadContent}
use Rattle.wt_text_edit_laws.specs.TextBlocks.{a_paragraph}
use Rattle.wt_beside_laws.proofs.Groups.Cases.{a_word}
use Rattle.wt_text_edit_laws.proofs.Cuts.Seen.{stands_begins}
use Rattle.wt_called_edit_laws.specs.CalledContents.{AreTextItems}
use Rattle.wt_called_edit_laws.specs.CallingBlocks.{spots_with_calls, items_past}
use Rattle.wt_called_edit_laws.specs.Covered.{NoGroupAt, HasFreeByte}
use Rattle.wt_called_edit_laws.specs.EditableBlocks.{IsEditableWithCalls}
use Rattle.wt_called_edit_laws.specs.Groups.{called_tree}
use Rattle.wt_called_edit_laws.specs.InCells.{AreTextLines}
use Rattle.wt_called_edit_laws.specs.ItemSpots.{ArePlaced}
use Rattle.wt_called_edit_laws.specs.Parts.{calls_to, calls_past, AreCalled}
use Rattle.wt_called_edit_laws.specs.PiecedParagraphs.{gap, AreCallsApart, HasOwn, IsInPieces, all_pieces, IsTextAndCalls}
use Rattle.wt_called_edit_laws.specs.WholeContents.{of_call, AreGroups, AreShutParts}
use Rattle.wt_called_edit_laws.proofs.Whole.Pieced.{as_written, pieced_content, pieced_holds}
use Rattle.std.specs.Prelude.{◌==◌, codes, if◌then◌else◌}
use Rattle.wt_tree.specs.Source.{flat}
use Rattle.wt_inline.specs.declared.loose.Loose.TheVariants.{Text}
use Rattle.wt_called_edit_laws.specs.CalledEdits.{page_things, IsBesideCalls, IsCalledEditOf, MakesContentIn, SendsUncalled}
use Rattle.wt_called_edit_laws.specs.PageThings.{AllMeetLater}
use Rattle.wt_called_edit_laws.specs.PartTexts.{AreSourcesAt}
use Rattle.wt_called_edit_laws.proofs.Beside.Cases.{word_group}
use Rattle.wt_called_edit_laws.proofs.Whole.OfCall.{is_same, of_here}
use Rattle.wt_called_edit_laws.proofs.Whole.TextAndCalls.{pieced, texts_beside}
use Rattle.wt_span.specs.Origins.{OuterCall}
use Rattle.wt_tree.specs.Tree.{Tree}
use Rattle.wt_original.specs.Kept.{kept_with}
use Rattle.wt_annotated.specs.CutTexts.{cut_texts}
use Rattle.wt_lines.specs.Lines.{lines}
use Rattle.wt_link_spelling.specs.Spelling.{children_of, inline_spelling}
use Rattle.wt_guards.specs.Guards.{nowiki, is_guarded, is_between_guard, is_start_guard, is_end_guard, is_blank_guard}
use Rattle.wt_guards.specs.Letters.{is_escaped}
use Rattle.wt_guards.specs.Table.{hazard, line_start_hazard}
use Rattle.wt_part_laws.specs.HeldCalls.{block_in}
use Rattle.wt_typed_blocks.specs.Edited.{Pieces, no_pieces, gone, written, kept}
use Rattle.wt_text_edit_laws.specs.NoCalls.{AreUnbraced}
use Rattle.wt_text_edit_laws.specs.ParagraphParts.{joined_parts, para_with}
use Rattle.wt_beside_laws.specs.ContentEdits.{new_content}
use Rattle.wt_called_edit_laws.specs.InPieces.{AreInPieces}
use Rattle.wt_called_edit_laws.specs.SentAsIs.{as_sent}
use Rattle.wt_called_edit_laws.specs.Settled.{settled}
use Rattle.wt_called_edit_laws.proofs.Beside.Making.{calls_make}
use Rattle.wt_called_edit_laws.proofs.Beside.Uncalled.{some_sent}
use Rattle.wt_called_edit_laws.proofs.Cells.SentAsIs.{stands_as_sent}
use Rattle.wt_called_edit_laws.proofs.Written.Joined.{calm_written}
use Rattle.wt_called_edit_laws.proofs.Whole.Cases.{a_group_call}
use Rattle.wt_called_edit_laws.proofs.Written.Cases.{call_part as call_alone}
use Rattle.wt_called_edit_laws.proofs.Beside.EndCases.{nothing, called_at, a_label, nth, none_behind}

abbrev pub source : List ℕ
source = codes "{{t}} is"

abbrev pieces : List (List ℕ)
pieces = codes "{{t}}" ∷ codes " is" ∷ []

abbrev given : ℕ → List Item
given i = char (Some i) 98 ∷ char None 32 ∷ char None 105 ∷ char None 115 ∷ []

items_are : (i : ℕ) → part_items a_word i source ≡ given i
unfolding words closed form_at comment_len comment_line_len raw_len opening_tag tag_after closing_tag with_inside is_extension
    include_at entity_at named_entity decimal_entity hex_entity entity_names sign_word reduced rewritten parts_of text_members trimmed
    trimmed_items name_text called most_templates is_function title_of_target title_in_target read_text is_allowed is_forbidden
    is_good has_signature is_step begins_with_step holds_step ends_with_step name_of image is_called namespace_named prefix_of
    full_name_of whole_in cut_namespace title_in template_text begins_only ends_only loop_text depth_text absent_text
    utf8_valid_len is_utf8 chars encode link_to page_stretches
items_are i = refl

abbrev nodes : ℕ → List CallPiece
nodes i = given_by i (loose_leaf Text (char (Some i) 98 ∷ [])) [] ∷ own (loose_leaf Text (char None 32 ∷ char None 105 ∷ char None 115 ∷ [])) ∷ []

nodes_are : (i : ℕ) → all_pieces a_word i pieces ≡ nodes i
unfolding words closed form_at comment_len comment_line_len raw_len opening_tag tag_after closing_tag with_inside is_extension
    include_at entity_at named_entity decimal_entity hex_entity entity_names sign_word reduced rewritten parts_of text_members trimmed
    trimmed_items name_text called most_templates is_function title_of_target title_in_target read_text is_allowed is_forbidden
    is_good has_signature is_step begins_with_step holds_step ends_with_step name_of image is_called namespace_named prefix_of
    full_name_of whole_in cut_namespace title_in template_text begins_only ends_only loop_text depth_text absent_text
    utf8_valid_len is_utf8 chars encode link_to page_stretches expanded_page
    context_parts chunks segments loose_segments tiles shapes closes tile_at link_or_url link_at ext_link_at bare_url_at scheme_len
    tag_tile tag_at switch_at with_styles style_tree_of toggles_of toggle_at opens_tag closes_tag children
nodes_are i = refl

abbrev parts : ℕ → List Part
parts i = loose Text (Some i) 98 ∷ loose Text None 32 ∷ loose Text None 105 ∷ loose Text None 115 ∷ []

parts_are : (i : ℕ) → content_parts_of a_paragraph (given i) ≡ parts i
unfolding context_parts chunks segments loose_segments tiles shapes closes tile_at link_or_url link_at ext_link_at bare_url_at scheme_len
    tag_tile tag_at switch_at with_styles style_tree_of toggles_of toggle_at opens_tag closes_tag
parts_are i = refl

parts_there : (i : ℕ) → content_parts_of a_paragraph (part_items a_word i source) ≡ parts i
parts_there i = ap (content_parts_of a_paragraph) (items_are i) ∙ parts_are i

pieces_are : (i : ℕ) → call_pieces (children (parts i)) ≡ nodes i
unfolding children
pieces_are i = refl

given_here : (i : ℕ) → of_call i (given i) ≡ char (Some i) 98 ∷ []
given_here i = of_here i (char (Some i) 98) (char None 32 ∷ char None 105 ∷ char None 115 ∷ []) (is_same (Some i) i refl)

groups_here : (i : ℕ) → AreGroups (given i) (nodes i)
groups_here i = let w = word_group i (given i) (given_here i) in (w.0, w.1, tt)

groups_there : (i : ℕ) → AreGroups (part_items a_word i source) (call_pieces (children (content_parts_of a_paragraph (part_items a_word i source))))
groups_there i =
    subst (λ (ps : List Part). AreGroups (part_items a_word i source) (call_pieces (children ps))) (sym (parts_there i))
    (subst (AreGroups (part_items a_word i source)) (sym (pieces_are i)) (subst (λ (xs : List Item). AreGroups xs (nodes i)) (sym (items_are i)) (groups_here i)))

is_read : IsReadContent a_paragraph source
unfolding page_items words closed form_at comment_len comment_line_len raw_len opening_tag tag_after closing_tag with_inside include_at entity_at named_entity
    decimal_entity hex_entity entity_names sign_word encode
is_read = record {
  utf8 = (source, (refl, refl));
  ended = refl;
  unended = refl;
  begins = stands_begins source (record { uncommented = refl }) (record { uncommented = refl }) refl refl;
}

is_text : (i : ℕ) → AreTextItems (given i)
unfolding kind_of_signs
is_text i = record {
  seen = All-cons IsSeenLine (given i) [] refl (All-nil IsSeenLine);
  unled = refl;
  own_breaks = ((λ e. absurd (cc)), ((λ e. absurd (cc)), ((λ e. absurd (cc)), ((λ e. absurd (cc)), tt))));
}

calm : AreUnbraced (page_items (codes " is"))
unfolding page_items words closed form_at comment_len comment_line_len raw_len opening_tag tag_after closing_tag with_inside include_at entity_at named_entity
    decimal_entity hex_entity entity_names sign_word
calm = (refl, (refl, (refl, tt)))

in_pieces : AreInPieces a_word pieces
unfolding words closed form_at comment_len comment_line_len raw_len opening_tag tag_after closing_tag with_inside include_at entity_at named_entity
    decimal_entity hex_entity entity_names sign_word
in_pieces = let text = calm_written a_word (codes " is") calm in (call_alone, inl refl, (text.part, inl refl, tt))

calls_none : (expanded_page a_word (codes " is")).outer ≡ []
unfolding words closed form_at comment_len comment_line_len raw_len opening_tag tag_after closing_tag with_inside is_extension
    include_at entity_at named_entity decimal_entity hex_entity entity_names sign_word reduced rewritten parts_of text_members page_stretches expanded_page
calls_none = refl

pub text_and_calls : IsTextAndCalls a_word source
text_and_calls = record {
  pieces = pieces;
  is = refl;
  parts = in_pieces;
  each = (inr a_group_call, (inl calls_none, tt));
  read = is_read;
  lines = λ i. subst AreTextItems (sym (items_are i)) (is_text i);
  texts = λ i. subst AreOwnOrGiven (sym (parts_there i)) tt;
  groups = groups_there;
  shut = λ i. subst AreShutParts (sym (parts_there i)) tt;
  some = λ i. subst HasOwn (sym (parts_there i)) tt;
  nodes = λ i. ap (λ (ps : List Part). call_pieces (children ps)) (parts_there i) ∙ pieces_are i ∙ sym (nodes_are i);
}

-- a text is behind its call
gap_is : gap a_word (codes " is" ∷ []) ≡ 3
gap_is = ap (λ (cs : List OuterCall). if length cs == 0 then 3 else 0) calls_none

pub calls_apart : AreCallsApart a_word text_and_calls.pieces
unfolding text_and_calls
calls_apart = (inr (omega (arith, gap_is)), (inl (ap (λ (cs : List OuterCall). length cs) calls_none), tt))

here : IsInPieces a_word source
here = pieced a_word source text_and_calls

abbrev a_block : BlockSpot
a_block = record { before = []; block = a_paragraph; text = source }

anywhere : GivesAnywhere a_word source
anywhere = let w = as_written a_word source here in let part = w.part in part.anywhere

called_here : AreCalled a_word (a_block ∷ []) []
unfolding page_items words closed form_at comment_len comment_line_len raw_len opening_tag tag_after closing_tag with_inside include_at entity_at named_entity
    decimal_entity hex_entity entity_names sign_word is_extension reduced rewritten
called_here = (
  record { led = inl tt; before_utf8 = IsUtf8-nil; block = is_read },
  (record { uncommented = refl }, IsUtf8-nil, tt),
  record { end_before = (refl, inr tt, tt); anywhere = (anywhere, tt); apart = tt },
)

stays_text : (i : ℕ) → AreTextLines 0 (given i)
unfolding kind_of_signs
stays_text i = All-cons (λ l. line_kind 0 l ≡ line.Text) (given i) [] refl (All-nil (λ l. line_kind 0 l ≡ line.Text))

placed_here : ArePlaced (spots_with_calls a_word 0 (a_block ∷ [])) (items_past a_word 0 (a_block ∷ []) [])
placed_here =
    let P : List Item → List Item → List Item → Type 0 = λ before xs behind. ArePlaced (record { before = before; block = a_paragraph; content = xs } ∷ []) behind in
    let n : ℕ = calls_past a_word 0 a_block in
    let at : ℕ = calls_to a_word 0 a_block in
    let own : P [] (given at) [] = ((is_text at, record { whole = inl refl; in_cells = tt; apart = tt }, inl (stays_text at)), tt) in
    subst (λ before. P before (part_items a_word at source) (part_items a_word n [])) (sym (nothing 0))
    (subst (λ xs. P [] xs (part_items a_word n [])) (sym (items_are at)) (subst (λ behind. P [] (given at) behind) (sym (nothing n)) own))

pub unrefused_here : refusal_of_page a_word source ≡ None
unfolding words closed form_at comment_len comment_line_len raw_len opening_tag tag_after closing_tag with_inside is_extension
    include_at entity_at named_entity decimal_entity hex_entity entity_names sign_word reduced rewritten text_members trimmed
    trimmed_items name_text called most_templates is_function title_of_target title_in_target read_text is_allowed is_forbidden
    is_good has_signature is_step begins_with_step holds_step ends_with_step name_of image is_called namespace_named prefix_of
    full_name_of whole_in cut_namespace title_in template_text begins_only ends_only loop_text depth_text absent_text page_work
    allowed_work deep_place too_deep calls nesting template_refusal most_bytes most_cost not_utf8_place utf8_valid_len
    is_utf8 chars encode first_refusal
unrefused_here = refl

no_group_here : NoGroupAt 5 (called_tree a_word source)
unfolding words closed form_at comment_len comment_line_len raw_len opening_tag tag_after closing_tag with_inside is_extension
    include_at entity_at named_entity decimal_entity hex_entity entity_names sign_word reduced rewritten parts_of text_members trimmed
    trimmed_items name_text called most_templates is_function title_of_target title_in_target read_text is_allowed is_forbidden
    is_good has_signature is_step begins_with_step holds_step ends_with_step name_of image is_called namespace_named prefix_of
    full_name_of whole_in cut_namespace title_in template_text begins_only ends_only loop_text depth_text absent_text
    utf8_valid_len is_utf8 chars encode link_to page_stretches expanded_page kind_of_signs
    annotated group_data call_part param_by trimmed_data label_at meaning rows blocks children para line_trees
    context_parts chunks segments loose_segments tiles shapes closes tile_at link_or_url link_at ext_link_at bare_url_at scheme_len
    tag_tile tag_at switch_at with_styles style_tree_of toggles_of toggle_at opens_tag closes_tag
no_group_here = ((inr none_behind, (tt, tt)), tt)

-- its text is in no group
free_here : HasFreeByte (called_tree a_word source) 0 (length source)
free_here =
    let low : 0 ≤ 5 = omega arith in
    let high : 5 < 8 = omega arith in
    (5, low, high, no_group_here)

pub in_class : IsEditableWithCalls a_word (a_block ∷ []) []
in_class = record {
  blocks = record { called = called_here; contents = (pieced_content a_word source here, tt); placed = placed_here };
  contents = (inr (pieced_holds a_word source here), tt);
  unrefused = unrefused_here;
  free = (free_here, tt);
}

abbrev calls_here : List OuterCall
calls_here = called_at 0 ∷ []

abbrev block_by : List Item → Tree
block_by xs = settled 1 0 (cut_texts (block_in calls_here (para_with (joined_parts (lines xs)))))

abbrev pub block : Tree
block = block_by (given 0)

pub block_source : flat block ≡ source
unfolding label_at context_parts chunks segments loose_segments tiles shapes closes tile_at link_or_url link_at ext_link_at bare_url_at scheme_len
    tag_tile tag_at switch_at children with_styles style_tree_of toggles_of toggle_at opens_tag closes_tag
block_source = refl

sources_are : AreSourcesAt calls_here 0 (expanded_page a_word source).outer
unfolding words closed form_at comment_len comment_line_len raw_len opening_tag tag_after closing_tag with_inside is_extension
    include_at entity_at named_entity decimal_entity hex_entity entity_names sign_word reduced rewritten parts_of text_members trimmed
    trimmed_items name_text called most_templates is_function title_of_target title_in_target read_text is_allowed is_forbidden
    is_good has_signature is_step begins_with_step holds_step ends_with_step name_of image is_called namespace_named prefix_of
    full_name_of whole_in cut_namespace title_in template_text begins_only ends_only loop_text depth_text absent_text
    utf8_valid_len is_utf8 chars encode link_to page_stretches expanded_page
sources_are = (refl, tt)

-- no call is beside another one
meets : AllMeetLater a_word (page_things (block_by (given 0)))
unfolding kept_with label_at context_parts chunks segments loose_segments tiles shapes closes tile_at link_or_url link_at ext_link_at bare_url_at scheme_len
    tag_tile tag_at switch_at children with_styles style_tree_of toggles_of toggle_at opens_tag closes_tag
meets = (tt, tt)

meets_there : AllMeetLater a_word (page_things (block_by (part_items a_word 0 source)))
meets_there = subst (λ (xs : List Item). AllMeetLater a_word (page_things (block_by xs))) (sym (items_are 0)) meets

beside_call : IsBesideCalls a_word a_paragraph source block
beside_call =
    let some : 0 < 1 = omega arith in
    subst (λ (xs : List Item). IsBesideCalls a_word a_paragraph source (block_by xs)) (items_are 0)
    (texts_beside a_word source (block_by (part_items a_word 0 source)) 1 0 0 calls_here some refl sources_are text_and_calls meets_there)

-- ` was` in the place of ` is`
abbrev edit : Pieces
edit = kept (nth 0 (children_of block)) (as_sent (nth 0 (children_of block))) (gone (nth 1 (children_of block)) (written a_label (codes " was") no_pieces))

are_letters : IsUtf8 (codes " was")
unfolding encode
are_letters = (codes " was", (refl, refl))

edit_of : IsCalledEditOf a_word a_paragraph block edit
unfolding label_at context_parts chunks segments loose_segments tiles shapes closes tile_at link_or_url link_at ext_link_at bare_url_at scheme_len tag_tile tag_at
    switch_at children with_styles style_tree_of toggles_of toggle_at opens_tag closes_tag
edit_of = record {
  old = refl;
  stay = (stands_as_sent (nth 0 (children_of block)) (record { numbered = λ e. cc; unnumbered = (refl, tt); unframed = refl }), tt);
  are = (tt, (are_letters, tt));
  plain = tt;
  calm = ((λ n. absurd n), tt);
  fits = some_sent block edit (tt, (are_letters, tt)) tt;
}

pub makes : MakesContentIn a_word a_paragraph source block a_label edit
makes =
    let some : 0 < 1 = omega arith in
    calls_make a_word a_paragraph source block a_label edit 1 0 0 calls_here some (ap block_by (sym (items_are 0))) beside_call edit_of

pub written_is : new_content a_paragraph block a_label edit ≡ codes "{{t}} was"
unfolding inline_spelling kept_with label_at context_parts chunks segments loose_segments tiles shapes closes tile_at link_or_url link_at ext_link_at bare_url_at scheme_len tag_tile tag_at
    switch_at children with_styles style_tree_of toggles_of toggle_at opens_tag closes_tag nowiki is_guarded is_between_guard is_start_guard is_end_guard is_blank_guard hazard line_start_hazard
    is_escaped chars encode
written_is = refl

-- its text is deleted: what is left is the call, and `<nowiki/>` is put behind it, which didn't end the paragraph
abbrev without_text : Pieces
without_text = kept (nth 0 (children_of block)) (as_sent (nth 0 (children_of block))) (gone (nth 1 (children_of block)) no_pieces)

nowiki_is_put : SendsUncalled block without_text
unfolding kept_with label_at context_parts chunks segments loose_segments tiles shapes closes tile_at link_or_url link_at ext_link_at bare_url_at scheme_len tag_tile tag_at
    switch_at children with_styles style_tree_of toggles_of toggle_at opens_tag closes_tag is_guarded is_between_guard is_start_guard is_end_guard is_blank_guard hazard line_start_hazard
nowiki_is_put = inr (inr refl)

edit_without_text : IsCalledEditOf a_word a_paragraph block without_text
unfolding label_at context_parts chunks segments loose_segments tiles shapes closes tile_at link_or_url link_at ext_link_at bare_url_at scheme_len tag_tile tag_at
    switch_at children with_styles style_tree_of toggles_of toggle_at opens_tag closes_tag
edit_without_text = record {
  old = refl;
  stay = (stands_as_sent (nth 0 (children_of block)) (record { numbered = λ e. cc; unnumbered = (refl, tt); unframed = refl }), tt);
  are = (tt, tt);
  plain = tt;
  calm = ((λ n. absurd n), tt);
  fits = nowiki_is_put;
}

pub makes_without_text : MakesContentIn a_word a_paragraph source block a_label without_text
makes_without_text =
    let some : 0 < 1 = omega arith in
    calls_make a_word a_paragraph source block a_label without_text 1 0 0 calls_here some (ap block_by (sym (items_are 0))) beside_call edit_without_text

pub without_text_is : new_content a_paragraph block a_label without_text ≡ codes "{{t}}<nowiki/>"
unfolding inline_spelling kept_with label_at context_parts chunks segments loose_segments tiles shapes closes tile_at link_or_url link_at ext_link_at bare_url_at scheme_len tag_tile tag_at
    switch_at children with_styles style_tree_of toggles_of toggle_at opens_tag closes_tag nowiki is_guarded is_between_guard is_start_guard is_end_guard is_blank_guard hazard line_start_hazard
    is_escaped chars encode
without_text_is = refl
