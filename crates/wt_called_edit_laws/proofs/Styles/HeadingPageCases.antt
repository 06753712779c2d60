-- Worked case: the page `== '''x'''{{t}}y ==`, where `Template:T` is a word, is one of those of which texts beside calls may be edited, by computing the whole of it.
use Rattle.std.proofs.Common.{arith, ◌≡◌, ◌<◌, ◌≤◌, inl, inr, ℕ, None, List, [], ◌∷◌, length, refl, sym, subst}
use Rattle.std.specs.Prelude.{codes}
use Rattle.std.specs.Str.{is_utf8, chars}
use Rattle.std.specs.Str.Lossy.{utf8_valid_len}
use Rattle.std.proofs.lemmas.Str.{IsUtf8-nil}
use lib.Utf8.{encode}
use Rattle.wt_span.specs.Comments.{comment_len, comment_line_len}
use Rattle.wt_span.specs.Entities.{entity_at, named_entity, decimal_entity, hex_entity, entity_names}
use Rattle.wt_span.specs.Tags.{raw_len, opening_tag, tag_after, closing_tag, with_inside, is_extension, include_at}
use Rattle.wt_span.specs.Items.{Item}
use Rattle.wt_span.specs.Lexemes.{sign_word, form_at, closed, words}
use Rattle.wt_span.specs.Braces.{rewritten, reduced, parts_of, calls, nesting}
use Rattle.wt_lines.specs.Kinds.{kind_of_signs}
use Rattle.wt_braces.specs.Found.{too_deep}
use Rattle.wt_names.specs.Good.{is_forbidden, is_allowed, has_signature, is_step, begins_with_step, holds_step, ends_with_step, is_good, read_text}
use Rattle.wt_names.specs.Namespace.{name_of, image, is_called, namespace_named, prefix_of, full_name_of}
use Rattle.wt_names.specs.Reading.{whole_in, cut_namespace, title_in}
use Rattle.wt_names.specs.Written.{link_to}
use Rattle.wt_utf8.specs.Places.{not_utf8_place}
use Rattle.wt_inline.specs.Parts.{children}
use Rattle.wt_tiles.specs.Links.{link_at}
use Rattle.wt_tiles.specs.Urls.{scheme_len, ext_link_at, bare_url_at}
use Rattle.wt_tiles.specs.Tags.{tag_at, opening_tag as opens_tag, closing_tag as closes_tag}
use Rattle.wt_tiles.specs.Tiles.{tag_tile, switch_at, link_or_url, form_at as tile_at, closed as closes, shapes, tiles}
use Rattle.wt_quotes.specs.Toggles.{toggle_at, toggles_of}
use Rattle.wt_quotes.specs.Runs.{place_of}
use Rattle.wt_quotes.specs.Styles.{style_tree_of}
use Rattle.wt_quotes.specs.Turns.{since, next, bold_ends_later, effect_on, is_bold_outside_at, turn_at}
use Rattle.wt_context.specs.Segments.{loose_segments}
use Rattle.wt_context.specs.Chunks.{chunks}
use Rattle.wt_context.specs.Styled.{with_styles}
use Rattle.wt_context.specs.Nodes.{segments}
use Rattle.wt_context.specs.Line.{context_parts, line_trees}
use Rattle.wt_blocks.specs.Headings.{level, opening as opens_heading, inside as in_heading, closing as closes_heading}
use Rattle.wt_page.specs.Headings.{heading}
use Rattle.wt_page.specs.Rows.{rows}
use Rattle.wt_page.specs.Texts.{para}
use Rattle.wt_page.specs.Body.{blocks, meaning}
use Rattle.wt_call_data.specs.CallData.{call_part, param_by, trimmed as trimmed_data}
use Rattle.wt_annotated.specs.Annotated.{annotated}
use Rattle.wt_annotated.specs.GroupData.{group_data}
use Rattle.wt_annotated.specs.Labels.{label_at}
use Rattle.wt_expand.specs.PageItems.{page_items}
use Rattle.wt_expand.specs.Texts.{trimmed, trimmed_items, name_text}
use Rattle.wt_expand.specs.Targets.{title_in_target, title_of_target, is_function, called}
use Rattle.wt_expand.specs.Templates.{begins_only, ends_only, template_text}
use Rattle.wt_expand.specs.Work.{deep_place, template_refusal, most_bytes, most_cost, first_refusal}
use Rattle.wt_expand.specs.Expansion.{text_members, most_templates, absent_text, loop_text, depth_text, page_work}
use Rattle.wt_expand.specs.Fronts.{allowed_work}
use Rattle.wt_expand.specs.PageCalls.{page_stretches, expanded_page}
use Rattle.wt_commands.specs.Answers.{refusal_of_page}
use Rattle.wt_part_laws.specs.CallPieces.{AreOwnOrGiven, call_pieces}
use Rattle.wt_part_laws.specs.Expanded.{part_items, GivesAnywhere}
use Rattle.wt_part_laws.proofs.ExpandedBoth.{plain_anywhere}
use Rattle.wt_text_edit_laws.specs.BlockSpots.{BlockSpot}
use Rattle.wt_text_edit_laws.specs.Contents.{content_parts_of}
use Rattle.wt_text_edit_laws.specs.TextBlocks.{a_heading}
use Rattle.wt_beside_laws.proofs.Groups.Cases.{a_word}
use Rattle.wt_called_edit_laws.specs.CalledContents.{AreHeadingItems}
use Rattle.wt_called_edit_laws.specs.CallingBlocks.{spots_with_calls, items_past}
use Rattle.wt_called_edit_laws.specs.Covered.{NoGroupAt, HasFreeByte}
use Rattle.wt_called_edit_laws.specs.EditableBlocks.{IsEditableWithCalls}
use Rattle.wt_called_edit_laws.specs.Groups.{called_tree}
use Rattle.wt_called_edit_laws.specs.ItemSpots.{ArePlaced}
use Rattle.wt_called_edit_laws.specs.Parts.{calls_to, calls_past, AreCalled}
use Rattle.wt_called_edit_laws.specs.PiecedParagraphs.{IsHeadingInPieces}
use Rattle.wt_called_edit_laws.specs.WholeContents.{AreGroups, AreShutParts}
use Rattle.wt_called_edit_laws.proofs.Beside.Cases.{word_group}
use Rattle.wt_called_edit_laws.proofs.Headings.Cases.{two, seen, frame}
use Rattle.wt_called_edit_laws.proofs.Styles.Cases.{source, given, items_are, given_word, pieces, in_pieces, among}
use Rattle.wt_called_edit_laws.proofs.Styles.HeadingCases.{own_call, of_page, read}
use Rattle.wt_called_edit_laws.proofs.Headings.Pieced.{pieced_heading, pieced_heading_holds}
use Rattle.wt_called_edit_laws.proofs.Whole.PartsIn.{simple_parts}

-- ---- the heading

-- the bold `x` is a node, and the word and `y` are characters on one line
record AreGivenParts (xs : List Item) : Type 0 where
  texts : AreOwnOrGiven (content_parts_of (a_heading two) xs)
  groups : AreGroups xs (call_pieces (children (content_parts_of (a_heading two) xs)))
  shut : AreShutParts (content_parts_of (a_heading two) xs)

given_parts : (i : ℕ) → AreGivenParts (given i)
unfolding context_parts chunks segments loose_segments tiles shapes closes tile_at link_or_url link_at ext_link_at bare_url_at scheme_len tag_tile tag_at switch_at
    with_styles style_tree_of toggles_of toggle_at opens_tag closes_tag place_of since next bold_ends_later effect_on is_bold_outside_at turn_at children label_at
given_parts i = record {
  texts = (inl (record { of_page = refl; has_items = (refl, ((refl, tt), tt)) }), tt);
  groups = (let w = word_group i (given i) (given_word i) in (w.0, w.1, tt));
  shut = ((λ e. (refl, (refl, ((refl, tt), tt)))), tt);
}

parts_here : (i : ℕ) → AreGivenParts (part_items a_word i source)
parts_here i = subst AreGivenParts (sym (items_are i)) (given_parts i)

is_line : (i : ℕ) → AreHeadingItems two (given i)
unfolding level page_items words closed form_at comment_len comment_line_len raw_len opening_tag tag_after closing_tag with_inside include_at entity_at
    named_entity decimal_entity hex_entity entity_names sign_word
is_line i = record { sides = frame.sides; inside = inl (record { unbroken = (refl, (refl, (refl, (refl, (refl, (refl, (refl, (refl, (refl, tt))))))))); begins = refl; ends = refl }); of_level = refl }

pub here : IsHeadingInPieces a_word two source
here = record {
  pieces = pieces;
  is = refl;
  parts = in_pieces;
  nodes = own_call ∷ [];
  things = of_page;
  among = among;
  seen = (seen, tt);
  read = read;
  line = λ i. subst (AreHeadingItems two) (sym (items_are i)) (is_line i);
  texts = λ calls i a.
      let xs : List Item = part_items a_word i source in
      let p : AreGivenParts xs = parts_here i in
      simple_parts calls xs (content_parts_of (a_heading two) xs) p.texts;
  groups = λ i. let p = parts_here i in p.groups;
  shut = λ i. let p = parts_here i in p.shut;
}

-- ---- the page

abbrev page : List ℕ
page = codes "== '''x'''{{t}}y =="

abbrev a_block : BlockSpot
a_block = record { before = []; block = a_heading two; text = source }

abbrev blocks_here : List BlockSpot
blocks_here = a_block ∷ []

anywhere : GivesAnywhere a_word page
unfolding words closed form_at comment_len comment_line_len raw_len opening_tag tag_after closing_tag with_inside is_extension include_at entity_at named_entity
    decimal_entity hex_entity entity_names sign_word reduced rewritten
anywhere = plain_anywhere a_word page tt

called_here : AreCalled a_word blocks_here []
unfolding page_items words closed form_at comment_len comment_line_len raw_len opening_tag tag_after closing_tag with_inside is_extension include_at entity_at
    named_entity decimal_entity hex_entity entity_names sign_word reduced rewritten
called_here = (
  record { led = inl tt; before_utf8 = IsUtf8-nil; block = read },
  (record { uncommented = refl }, IsUtf8-nil, tt),
  record { end_before = (refl, inr tt, tt); anywhere = (anywhere, tt); apart = tt },
)

nothing : (i : ℕ) → part_items a_word i [] ≡ []
unfolding words closed text_members page_stretches reduced
nothing i = refl

placed_here : ArePlaced (spots_with_calls a_word 0 blocks_here) (items_past a_word 0 blocks_here [])
placed_here =
    let P : List Item → List Item → List Item → Type 0 = λ before xs behind. ArePlaced (record { before = before; block = a_heading two; content = xs } ∷ []) behind in
    let n : ℕ = calls_past a_word 0 a_block in
    let at : ℕ = calls_to a_word 0 a_block in
    let own : P [] (given at) [] = ((is_line at, record { whole = inl refl; in_cells = tt; apart = tt }, inl tt), tt) in
    subst (λ before. P before (part_items a_word at source) (part_items a_word n [])) (sym (nothing 0))
    (subst (λ xs. P [] xs (part_items a_word n [])) (sym (items_are at)) (subst (λ behind. P [] (given at) behind) (sym (nothing n)) own))

unrefused_here : refusal_of_page a_word page ≡ None
unfolding words closed form_at comment_len comment_line_len raw_len opening_tag tag_after closing_tag with_inside is_extension
    include_at entity_at named_entity decimal_entity hex_entity entity_names sign_word reduced rewritten text_members trimmed
    trimmed_items name_text called most_templates is_function title_of_target title_in_target read_text is_allowed is_forbidden
    is_good has_signature is_step begins_with_step holds_step ends_with_step name_of image is_called namespace_named prefix_of
    full_name_of whole_in cut_namespace title_in template_text begins_only ends_only loop_text depth_text absent_text page_work
    allowed_work deep_place too_deep calls nesting template_refusal most_bytes most_cost not_utf8_place utf8_valid_len
    is_utf8 chars encode first_refusal
unrefused_here = refl

-- the group of the call is behind the bold `x`
behind_first : 0 < 10
behind_first = omega arith

no_group_here : NoGroupAt 0 (called_tree a_word page)
unfolding words closed form_at comment_len comment_line_len raw_len opening_tag tag_after closing_tag with_inside is_extension
    include_at entity_at named_entity decimal_entity hex_entity entity_names sign_word reduced rewritten parts_of text_members trimmed
    trimmed_items name_text called most_templates is_function title_of_target title_in_target read_text is_allowed is_forbidden
    is_good has_signature is_step begins_with_step holds_step ends_with_step name_of image is_called namespace_named prefix_of
    full_name_of whole_in cut_namespace title_in template_text begins_only ends_only loop_text depth_text absent_text
    utf8_valid_len is_utf8 chars encode link_to page_stretches expanded_page kind_of_signs
    heading opens_heading in_heading closes_heading level annotated group_data call_part param_by trimmed_data label_at meaning rows blocks children para line_trees
    context_parts chunks segments loose_segments tiles shapes closes tile_at link_or_url link_at ext_link_at bare_url_at scheme_len tag_tile tag_at switch_at
    with_styles style_tree_of toggles_of toggle_at opens_tag closes_tag place_of since next bold_ends_later effect_on is_bold_outside_at turn_at
no_group_here = (((tt, tt), (inl behind_first, (tt, tt))), tt)

-- so the first byte of the block is free
free_here : HasFreeByte (called_tree a_word page) 0 (length page)
free_here =
    let low : 0 ≤ 0 = omega arith in
    let high : 0 < 19 = omega arith in
    (0, low, high, no_group_here)

-- So texts may be typed beside its call, in bold and italic, too.
pub in_class : IsEditableWithCalls a_word blocks_here []
in_class = record {
  blocks = record { called = called_here; contents = (pieced_heading a_word two source here, tt); placed = placed_here };
  contents = (inr (pieced_heading_holds a_word two source here), tt);
  unrefused = unrefused_here;
  free = (free_here, tt);
}
