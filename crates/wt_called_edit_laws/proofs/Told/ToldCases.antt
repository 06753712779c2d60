-- A worked case by computing: a whole page told by its lines, which are a heading's, one with nothing between its `=`, two paragraphs,
-- and one in a cell. The first paragraph begins with a tab and a
-- comment behind it, the second is behind a comment.
use Rattle.std.proofs.Common.{arith, ◌≡◌, ℕ, true, None, List, [], ◌∷◌, ◌++◌, map, refl, sym, ap, ◌∙◌, subst}
use Rattle.std.specs.Prelude.{codes}
use Rattle.std.specs.Str.{IsUtf8}
use lib.Utf8.{encode}
use Rattle.wt_span.specs.Comments.{comment_len, comment_line_len}
use Rattle.wt_span.specs.Entities.{named_entity, entity_names, decimal_entity, hex_entity, entity_at}
use Rattle.wt_span.specs.Items.{Item, whole, char}
use Rattle.wt_span.specs.declared.form.ItemForm.TheVariants as form
use Rattle.wt_span.specs.Lexemes.{sign_word, form_at, closed, words}
use Rattle.wt_span.specs.Tags.{opening_tag, closing_tag, tag_after, with_inside, is_extension, raw_len, include_at}
use Rattle.wt_lines.specs.Kinds.{kind_of_signs}
use Rattle.wt_lines.specs.Lines.{full_lines}
use Rattle.wt_blocks.specs.Headings.{level, opening, inside, closing}
use Rattle.wt_tables.specs.Cells.{single_at, bar_at, cell_of, cells, table_attributes, row_attributes}
use Rattle.wt_tables.specs.Extents.{inner_len}
use Rattle.wt_inline.specs.Parts.{children}
use Rattle.wt_tiles.specs.Links.{link_at}
use Rattle.wt_tiles.specs.Urls.{scheme_len, kept_len, ext_link_at, bare_url_at}
use Rattle.wt_tiles.specs.Tags.{tag_at, opening_tag as tile_opening_tag, closing_tag as tile_closing_tag}
use Rattle.wt_tiles.specs.Tiles.{tag_tile, switch_at, link_or_url, form_at as tile_form_at, closed as tiles_closed, shapes, tiles}
use Rattle.wt_quotes.specs.Toggles.{toggle_at, toggles_of}
use Rattle.wt_quotes.specs.Styles.{style_tree_of}
use Rattle.wt_context.specs.Segments.{loose_segments}
use Rattle.wt_context.specs.Chunks.{chunks}
use Rattle.wt_context.specs.Styled.{with_styles}
use Rattle.wt_context.specs.Nodes.{segments}
use Rattle.wt_context.specs.Line.{context_parts, line_trees}
use Rattle.wt_page.specs.Headings.{heading}
use Rattle.wt_page.specs.Rows.{rows}
use Rattle.wt_page.specs.Tables.{cell_stretches, row_stretches, table_by}
use Rattle.wt_page.specs.Texts.{para}
use Rattle.wt_page.specs.Body.{blocks, meaning}
use Rattle.wt_annotated.specs.Annotated.{annotated}
use Rattle.wt_annotated.specs.GroupData.{group_data}
use Rattle.wt_annotated.specs.Labels.{label_at}
use Rattle.wt_expand.specs.PageItems.{page_items}
use Rattle.wt_text_edit_laws.specs.LonePages.{page_chars}
use Rattle.wt_text_edit_laws.specs.NoCalls.{CallsNothing}
use Rattle.wt_text_edit_laws.specs.Parts.{part_tree}
use Rattle.wt_called_edit_laws.specs.PlacedLines.{all_lines, spots_by}
use Rattle.wt_called_edit_laws.specs.PlacedSpots.{AreShut}
use Rattle.wt_called_edit_laws.specs.ToldLines.{Told, a_paragraph_of, a_heading_on, lined, AreTold, IsToldPage}
use Rattle.wt_called_edit_laws.proofs.Cells.PageCases.{is_free, are_free, free_node}

abbrev page : List ℕ
page = codes "== a ==\n== ==\n" ++ 9 ∷ codes "<!--c-->b\n\n<!--c-->d\n{|\n|\ne\n|}"

abbrev remark : Item
remark = whole form.Comment None (codes "<!--c-->")

abbrev told : List Told
told =
    a_heading_on [] [] (page_chars (codes "== a ==\n"))
    ∷ a_heading_on [] [] (page_chars (codes "== ==\n"))
    ∷ a_paragraph_of [] [] [] (char None 9 ∷ remark ∷ page_chars (codes "b\n")) []
    ∷ a_paragraph_of (page_chars (codes "\n") ∷ []) [] (remark ∷ []) (page_chars (codes "d\n")) []
    ∷ a_paragraph_of (page_chars (codes "{|\n") ∷ page_chars (codes "|\n") ∷ []) [] [] (page_chars (codes "e\n")) []
    ∷ []

abbrev behind : List (List Item)
behind = page_chars (codes "|}") ∷ []

abbrev items : List Item
items = page_chars (codes "== a ==\n== ==\n") ++ char None 9 ∷ remark ∷ page_chars (codes "b\n\n") ++ remark ∷ page_chars (codes "d\n{|\n|\ne\n|}")

are_items : page_items page ≡ items
unfolding page_items words closed form_at comment_len comment_line_len raw_len opening_tag tag_after closing_tag with_inside is_extension include_at entity_at
    named_entity decimal_entity hex_entity entity_names sign_word
are_items = refl

is_utf8 : IsUtf8 page
unfolding encode
is_utf8 = (page, (refl, refl))

free_page : is_free (part_tree page) ≡ true
unfolding is_free are_free page_items words closed form_at comment_len comment_line_len raw_len opening_tag tag_after closing_tag with_inside is_extension include_at
    entity_at named_entity decimal_entity hex_entity entity_names sign_word kind_of_signs annotated group_data label_at meaning rows blocks children para
    heading level opening inside closing line_trees cell_stretches row_stretches table_by single_at bar_at cell_of cells table_attributes row_attributes inner_len
    context_parts segments tiles shapes tiles_closed tile_form_at link_or_url link_at ext_link_at bare_url_at scheme_len kept_len
    tag_tile tag_at tile_opening_tag tile_closing_tag switch_at loose_segments chunks with_styles style_tree_of toggles_of toggle_at
free_page = refl

lines_are : full_lines items ≡ all_lines (map lined told) behind
lines_are = refl

told_here : AreTold told behind
unfolding kind_of_signs level opening inside closing
told_here = (
  record {
    sign = tt;
    unclosed = tt;
    are_marks = refl;
    some = omega arith;
    in_cells = tt;
    apart = tt;
    own = record { is_heading = refl; first = refl };
  },
  (
    tt,
    record { sign = tt; unclosed = tt; are_marks = refl; some = omega arith; in_cells = tt; apart = tt; own = record { is_heading = refl; first = refl } },
    (
      tt,
      record { sign = tt; unclosed = tt; are_marks = refl; some = omega arith; in_cells = tt; apart = tt; own = ((refl, tt), refl) },
      (
        refl,
        record { sign = tt; unclosed = tt; are_marks = refl; some = omega arith; in_cells = tt; apart = refl; own = ((refl, tt), refl) },
        (
          refl,
          record { sign = tt; unclosed = tt; are_marks = refl; some = omega arith; in_cells = (refl, tt); apart = refl; own = ((refl, tt), refl) },
          refl,
        ),
      ),
    ),
  ),
)

none_open : AreShut (spots_by [] (map lined told))
unfolding page_items words closed form_at comment_len comment_line_len raw_len opening_tag tag_after closing_tag with_inside is_extension include_at
    entity_at named_entity decimal_entity hex_entity entity_names sign_word level opening inside closing label_at children
    context_parts segments tiles shapes tiles_closed tile_form_at link_or_url link_at ext_link_at bare_url_at scheme_len kept_len
    tag_tile tag_at tile_opening_tag tile_closing_tag switch_at loose_segments chunks with_styles style_tree_of toggles_of toggle_at
none_open = (refl, (refl, (refl, (refl, (refl, tt)))))

told_page : IsToldPage page told behind
told_page = record {
  utf8 = is_utf8;
  calls_nothing = subst (λ (xs : List Item). CallsNothing xs) (sym are_items) tt;
  ungrouped = free_node (part_tree page) free_page;
  closed = (tt, (tt, (tt, (tt, (tt, tt)))));
  are = ap full_lines are_items ∙ lines_are;
  told = told_here;
  shut = none_open;
}
