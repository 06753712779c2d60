-- A worked case of a page with a call, by computing the whole of it: the call gives a paragraph, and a heading and a flat paragraph in a cell are
-- blocks whose contents may be edited.
use Rattle.std.proofs.Common.{◌≡◌, inl, inr, ℕ, Bool, true, false, Option, Some, None, List, [], ◌∷◌, refl, sym, subst, All}
use Rattle.std.specs.Prelude.{codes, if◌then◌else◌, nat_le}
use Rattle.std.specs.Str.{bytes_eq, is_utf8, chars, IsUtf8}
use Rattle.std.specs.Str.Lossy.{utf8_valid_len}
use Rattle.std.proofs.lemmas.List.Elements.{All-nil, All-cons}
use lib.Utf8.{encode}
use Rattle.wt_span.specs.Comments.{comment_len, comment_line_len}
use Rattle.wt_span.specs.Entities.{entity_at, named_entity, decimal_entity, hex_entity, entity_names}
use Rattle.wt_span.specs.Tags.{raw_len, opening_tag, tag_after, closing_tag, with_inside, is_extension, include_at}
use Rattle.wt_span.specs.Lexemes.{sign_word, form_at, closed, words}
use Rattle.wt_span.specs.Braces.{rewritten, reduced, parts_of, calls, nesting}
use Rattle.wt_tree.specs.declared.kind.Ranges.{Ranges}
use Rattle.wt_tree.specs.Tiling.{is_group}
use Rattle.wt_tree.specs.Tree.{Tree, tree, Trees, none, more}
use Rattle.wt_lines.specs.declared.kind.LineKind.TheVariants as line
use Rattle.wt_lines.specs.Kinds.{kind_of_signs, line_kind}
use Rattle.wt_lines.specs.Lines.{lines}
use Rattle.wt_lex.proofs.Begins.{le_is}
use Rattle.wt_braces.specs.Found.{too_deep}
use Rattle.wt_names.specs.Good.{is_forbidden, is_allowed, has_signature, is_step, begins_with_step, holds_step, ends_with_step, is_good, read_text}
use Rattle.wt_names.specs.Namespace.{name_of, image, is_called, namespace_named, prefix_of, full_name_of}
use Rattle.wt_names.specs.Reading.{whole_in, cut_namespace, title_in}
use Rattle.wt_names.specs.Written.{link_to}
use Rattle.wt_utf8.specs.Places.{not_utf8_place}
use Rattle.wt_blocks.specs.Headings.{opening, inside, closing}
use Rattle.wt_tables.specs.Cells.{single_at, bar_at, cell_of, cells, table_attributes, row_attributes}
use Rattle.wt_tables.specs.Extents.{inner_len}
use Rattle.wt_page.specs.Headings.{heading}
use Rattle.wt_inline.specs.Parts.{children}
use Rattle.wt_tiles.specs.Links.{link_at}
use Rattle.wt_tiles.specs.Urls.{scheme_len, kept_len, ext_link_at, bare_url_at}
use Rattle.wt_tiles.specs.Tags.{tag_at, opening_tag as tile_opening_tag, closing_tag as tile_closing_tag, tag_after as tile_tag_after, name_of as tag_name_of, live_name}
use Rattle.wt_tiles.specs.Tiles.{tag_tile, switch_at, link_or_url, form_at as tile_form_at, closed as tiles_closed, shapes, tiles}
use Rattle.wt_quotes.specs.Toggles.{toggle_at, toggles_of}
use Rattle.wt_quotes.specs.Styles.{style_tree_of}
use Rattle.wt_context.specs.Segments.{loose_segments}
use Rattle.wt_context.specs.Chunks.{chunks}
use Rattle.wt_context.specs.Styled.{with_styles}
use Rattle.wt_context.specs.Nodes.{segments}
use Rattle.wt_context.specs.Line.{context_parts, line_trees}
use Rattle.wt_page.specs.Rows.{rows}
use Rattle.wt_page.specs.Tables.{cell_stretches, row_stretches, table_by}
use Rattle.wt_page.specs.Texts.{para}
use Rattle.wt_page.specs.Body.{blocks, meaning}
use Rattle.wt_call_data.specs.CallData.{call_part, param_by, trimmed as trimmed_data}
use Rattle.wt_annotated.specs.Annotated.{annotated}
use Rattle.wt_annotated.specs.GroupData.{group_data}
use Rattle.wt_annotated.specs.Labels.{label_at}
use Rattle.wt_expand.specs.PageItems.{page_items}
use Rattle.wt_expand.specs.Texts.{trimmed, trimmed_items, name_text}
use Rattle.wt_expand.specs.Targets.{title_in_target, title_of_target, is_function, called}
use Rattle.wt_expand.specs.Templates.{begins_only, ends_only, template_text}
use Rattle.wt_expand.specs.Work.{Pages, deep_place, template_refusal, most_bytes, most_cost, first_refusal}
use Rattle.wt_expand.specs.Expansion.{text_members, most_templates, absent_text, loop_text, depth_text, page_work}
use Rattle.wt_expand.specs.Fronts.{allowed_work}
use Rattle.wt_expand.specs.PageCalls.{page_stretches, expanded_page}
use Rattle.wt_commands.specs.Answers.{refusal_of_page}
use Rattle.wt_text_edit_laws.specs.BlockSpots.{BlockSpot, spots_source}
use Rattle.wt_text_edit_laws.specs.Contents.{IsContent}
use Rattle.wt_text_edit_laws.specs.LonePages.{page_chars}
use Rattle.wt_text_edit_laws.specs.TextBlocks.{a_paragraph, a_heading}
use Rattle.wt_text_edit_laws.specs.TypedHeadings.{spaced}
use Rattle.wt_text_edit_laws.proofs.Blocks.Contents.{block_content, typed_firmly}
use Rattle.wt_beside_laws.proofs.Edits.Cases.{items_are}
use Rattle.wt_beside_laws.proofs.Made.Cases.{as_paragraph}
use Rattle.wt_beside_laws.proofs.Styled.WithoutStyles.{flat_content}
use Rattle.wt_called_edit_laws.specs.CalledBlocks.{spots_among, items_behind, CallNothing}
use Rattle.wt_text_edit_laws.proofs.Blocks.BlockReading.{content_read}
use Rattle.wt_called_edit_laws.proofs.Parts.NoCallsCalled.{calm_anywhere}
use Rattle.wt_called_edit_laws.proofs.Cells.ContentItems.{content_items}
use Rattle.wt_called_edit_laws.specs.Covered.{IsBeside, IfGroup, NoGroupAt, NoneGroupAt, IsEditablePage}
use Rattle.wt_called_edit_laws.specs.Groups.{called_tree}
use Rattle.wt_called_edit_laws.specs.InCells.{AreTextLines}
use Rattle.wt_called_edit_laws.specs.ItemSpots.{ArePlaced}
use Rattle.wt_called_edit_laws.specs.Parts.{AreCalled}
use Rattle.wt_called_edit_laws.proofs.Cells.AnyCases.{a_spot, typed_h}

-- ---- no group has a byte, computed

abbrev is_before : ℕ → Option Ranges → Bool
is_before b None = true
is_before b (Some r) = nat_le r.end b

abbrev group_or : Bool → Bool → Bool → Bool
group_or true v w = v
group_or false v w = w

abbrev mutual
  is_clear : ℕ → Tree → Bool
  is_clear b (tree l ts) = group_or (is_group l.kind) (is_before b l.ranges) (all_clear b ts)

  all_clear : ℕ → Trees → Bool
  all_clear b none = true
  all_clear b (more t ts) = if is_clear b t then all_clear b ts else false

beside_by : (b : ℕ) (r : Option Ranges) → is_before b r ≡ true → IsBeside b r
beside_by b None e = tt
beside_by b (Some r) e = inr (le_is r.end b e)

either : (g v w : Bool) (A B : Type 0) → (v ≡ true → A) → (w ≡ true → B) → group_or g v w ≡ true → IfGroup g A B
either true v w A B f g e = f e
either false v w A B f g e = g e

if_first : (v w : Bool) → (if v then w else false) ≡ true → v ≡ true
if_first true w e = refl
if_first false w e = e

if_second : (v w : Bool) → (if v then w else false) ≡ true → w ≡ true
if_second true w e = e
if_second false w e = let no : false ≡ true = e in absurd (cc)

mutual
  clear_node : (b : ℕ) (t : Tree) → is_clear b t ≡ true → NoGroupAt b t
  clear_node b (tree l ts) e =
      either (is_group l.kind) (is_before b l.ranges) (all_clear b ts) (IsBeside b l.ranges) (NoneGroupAt b ts) (beside_by b l.ranges) (clear_nodes b ts) e

  clear_nodes : (b : ℕ) (ts : Trees) → all_clear b ts ≡ true → NoneGroupAt b ts
  clear_nodes b none e = tt
  clear_nodes b (more t ts) e =
      (clear_node b t (if_first (is_clear b t) (all_clear b ts) e), clear_nodes b ts (if_second (is_clear b t) (all_clear b ts) e))

-- ---- the page

-- `Template:T` is a word, and no other page is there
abbrev pub a_word : Pages
a_word full = if bytes_eq full (codes "Template:T") then Some (codes "b") else None

abbrev pub a_title : BlockSpot
a_title = record { before = codes "{{t}}\n\n"; block = a_heading (spaced 2); text = codes "h" }

abbrev pub in_a_cell : BlockSpot
in_a_cell = a_spot (codes "\n{|\n|\n") (codes "x<br>y")

abbrev pub behind : List ℕ
behind = codes "\n|}"

abbrev pub whole_page : List ℕ
whole_page = codes "{{t}}\n\n== h ==\n{|\n|\nx<br>y\n|}"

was : spots_source (a_title ∷ in_a_cell ∷ []) behind ≡ whole_page
was = refl

-- ---- its blocks

title_content : IsContent (a_heading (spaced 2)) (codes "h")
title_content = block_content (a_heading (spaced 2)) (codes "h") (inl typed_h)

break_content : IsContent a_paragraph (codes "x<br>y")
break_content = flat_content a_paragraph (codes "x<br>y") as_paragraph

own_lines : All (λ l. line_kind 1 l ≡ line.Text) (lines (page_chars (codes "x<br>y")))
unfolding kind_of_signs
own_lines = All-cons (λ l. line_kind 1 l ≡ line.Text) (page_chars (codes "x<br>y")) [] refl (All-nil (λ l. line_kind 1 l ≡ line.Text))

stays_text : AreTextLines 1 (page_items (codes "x<br>y"))
stays_text = subst (AreTextLines 1) (sym items_are) own_lines

-- ---- among its calls

utf8_first : IsUtf8 (codes "{{t}}\n\n")
unfolding encode
utf8_first = (codes "{{t}}\n\n", (refl, refl))

utf8_second : IsUtf8 (codes "\n{|\n|\n")
unfolding encode
utf8_second = (codes "\n{|\n|\n", (refl, refl))

utf8_behind : IsUtf8 (codes "\n|}")
unfolding encode
utf8_behind = (codes "\n|}", (refl, refl))

calm_here : CallNothing (a_title ∷ in_a_cell ∷ [])
unfolding page_items words closed form_at comment_len comment_line_len raw_len opening_tag tag_after closing_tag with_inside is_extension include_at entity_at
    named_entity decimal_entity hex_entity entity_names sign_word reduced rewritten
calm_here = (tt, (tt, tt))

called_here : AreCalled a_word (a_title ∷ in_a_cell ∷ []) behind
unfolding page_items words closed form_at comment_len comment_line_len raw_len opening_tag tag_after closing_tag with_inside is_extension include_at entity_at
    named_entity decimal_entity hex_entity entity_names sign_word reduced rewritten
called_here = (
  record { led = inl refl; before_utf8 = utf8_first; block = content_read (a_heading (spaced 2)) (codes "h") title_content },
  (
    record { led = inl refl; before_utf8 = utf8_second; block = content_read a_paragraph (codes "x<br>y") break_content },
    refl,
    (record { uncommented = refl }, utf8_behind, refl),
  ),
  record {
    end_before = (
      (refl, (refl, (refl, (refl, (refl, refl))))),
      inl (typed_firmly (a_heading (spaced 2)) (codes "h") typed_h),
      (
        (refl, (refl, (refl, (refl, (refl, (refl, refl)))))),
        inr (refl, (refl, (refl, (refl, (refl, (refl, (refl, refl))))))),
        tt,
      ),
    );
    anywhere = calm_anywhere a_word (a_title ∷ in_a_cell ∷ []) (title_content, (break_content, tt)) calm_here;
    apart = tt;
  },
)

placed_here : ArePlaced (spots_among a_word 0 (a_title ∷ in_a_cell ∷ [])) (items_behind a_word 0 (a_title ∷ in_a_cell ∷ []) behind)
unfolding words closed form_at comment_len comment_line_len raw_len opening_tag tag_after closing_tag with_inside is_extension
    include_at entity_at named_entity decimal_entity hex_entity entity_names sign_word reduced rewritten parts_of text_members trimmed
    trimmed_items name_text called most_templates is_function title_of_target title_in_target read_text is_allowed is_forbidden
    is_good has_signature is_step begins_with_step holds_step ends_with_step name_of image is_called namespace_named prefix_of
    full_name_of whole_in cut_namespace title_in template_text begins_only ends_only loop_text depth_text absent_text
    utf8_valid_len is_utf8 chars encode link_to page_stretches expanded_page kind_of_signs
placed_here = (
  (content_items (a_heading (spaced 2)) (codes "h") title_content, record { whole = inl refl; in_cells = tt; apart = tt }, inl tt),
  (
    (refl, tt),
    (content_items a_paragraph (codes "x<br>y") break_content, record { whole = inl refl; in_cells = (refl, tt); apart = refl }, inl stays_text),
    (refl, refl),
  ),
)

-- ---- it can be expanded

unrefused_here : refusal_of_page a_word whole_page ≡ None
unfolding words closed form_at comment_len comment_line_len raw_len opening_tag tag_after closing_tag with_inside is_extension
    include_at entity_at named_entity decimal_entity hex_entity entity_names sign_word reduced rewritten text_members trimmed
    trimmed_items name_text called most_templates is_function title_of_target title_in_target read_text is_allowed is_forbidden
    is_good has_signature is_step begins_with_step holds_step ends_with_step name_of image is_called namespace_named prefix_of
    full_name_of whole_in cut_namespace title_in template_text begins_only ends_only loop_text depth_text absent_text page_work
    allowed_work deep_place too_deep calls nesting template_refusal most_bytes most_cost not_utf8_place utf8_valid_len
    is_utf8 chars encode first_refusal
unrefused_here = refl

-- ---- its groups

no_group_of_title : is_clear 7 (called_tree a_word whole_page) ≡ true
unfolding words closed form_at comment_len comment_line_len raw_len opening_tag tag_after closing_tag with_inside is_extension
    include_at entity_at named_entity decimal_entity hex_entity entity_names sign_word reduced rewritten parts_of text_members trimmed
    trimmed_items name_text called most_templates is_function title_of_target title_in_target read_text is_allowed is_forbidden
    is_good has_signature is_step begins_with_step holds_step ends_with_step name_of image is_called namespace_named prefix_of
    full_name_of whole_in cut_namespace title_in template_text begins_only ends_only loop_text depth_text absent_text
    utf8_valid_len is_utf8 chars encode link_to page_stretches expanded_page kind_of_signs
    annotated group_data call_part param_by trimmed_data label_at meaning rows blocks children para heading opening inside closing line_trees cell_stretches
    row_stretches table_by single_at bar_at cell_of cells table_attributes row_attributes inner_len
    context_parts segments tiles shapes tiles_closed tile_form_at link_or_url link_at ext_link_at bare_url_at scheme_len kept_len
    tag_tile tag_at tile_opening_tag tile_closing_tag tile_tag_after tag_name_of live_name switch_at loose_segments chunks with_styles style_tree_of
    toggles_of toggle_at
no_group_of_title = refl

no_group_of_cell : is_clear 20 (called_tree a_word whole_page) ≡ true
unfolding words closed form_at comment_len comment_line_len raw_len opening_tag tag_after closing_tag with_inside is_extension
    include_at entity_at named_entity decimal_entity hex_entity entity_names sign_word reduced rewritten parts_of text_members trimmed
    trimmed_items name_text called most_templates is_function title_of_target title_in_target read_text is_allowed is_forbidden
    is_good has_signature is_step begins_with_step holds_step ends_with_step name_of image is_called namespace_named prefix_of
    full_name_of whole_in cut_namespace title_in template_text begins_only ends_only loop_text depth_text absent_text
    utf8_valid_len is_utf8 chars encode link_to page_stretches expanded_page kind_of_signs
    annotated group_data call_part param_by trimmed_data label_at meaning rows blocks children para heading opening inside closing line_trees cell_stretches
    row_stretches table_by single_at bar_at cell_of cells table_attributes row_attributes inner_len
    context_parts segments tiles shapes tiles_closed tile_form_at link_or_url link_at ext_link_at bare_url_at scheme_len kept_len
    tag_tile tag_at tile_opening_tag tile_closing_tag tile_tag_after tag_name_of live_name switch_at loose_segments chunks with_styles style_tree_of
    toggles_of toggle_at
no_group_of_cell = refl

-- So both may be edited.
pub in_class : IsEditablePage a_word (a_title ∷ in_a_cell ∷ []) behind
in_class = record {
  among = record { called = called_here; contents = (title_content, (break_content, tt)); calm = calm_here; placed = placed_here };
  unrefused = unrefused_here;
  in_no_group = (
    clear_node 7 (called_tree a_word whole_page) no_group_of_title,
    (clear_node 20 (called_tree a_word whole_page) no_group_of_cell, tt),
  );
}
