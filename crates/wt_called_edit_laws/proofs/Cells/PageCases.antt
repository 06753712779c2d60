-- A worked case of a page of the class, by computing: a table of one cell, which holds the paragraph.
use Rattle.std.proofs.Common.{◌≡◌, Bool, true, false, [], refl}
use Rattle.std.specs.Prelude.{◌&&◌, not, codes}
use Rattle.std.specs.Str.{chars, IsUtf8}
use Rattle.wt_tree.specs.Tiling.{is_group, HasNoGroup, NoneIsGroup}
use Rattle.wt_tree.specs.Tree.{Tree, tree, Trees, none, more}
use Rattle.wt_tree.specs.declared.edit_shape.Place.TheVariants as place
use Rattle.wt_span.specs.Comments.{comment_len, comment_line_len}
use Rattle.wt_span.specs.Entities.{named_entity, entity_names, decimal_entity, hex_entity, entity_at}
use Rattle.wt_span.specs.Lexemes.{sign_word, form_at, closed, words}
use Rattle.wt_span.specs.Tags.{opening_tag, closing_tag, raw_len, include_at}
use Rattle.wt_lines.specs.Kinds.{kind_of_signs}
use Rattle.wt_tables.specs.Cells.{single_at, bar_at, cell_of, cells, table_attributes, row_attributes}
use Rattle.wt_tables.specs.Extents.{inner_len}
use Rattle.wt_guards.specs.Guards.{nowiki, is_guarded, is_between_guard, is_start_guard, is_end_guard, is_blank_guard, is_parted}
use Rattle.wt_guards.specs.Letters.{is_escaped}
use Rattle.wt_guards.specs.Table.{hazard, line_start_hazard}
use Rattle.wt_inline.specs.Parts.{children}
use Rattle.wt_tiles.specs.Links.{link_at}
use Rattle.wt_tiles.specs.Urls.{scheme_len, kept_len, ext_link_at, bare_url_at}
use Rattle.wt_tiles.specs.Tags.{tag_at, opening_tag as tile_opening_tag, closing_tag as tile_closing_tag}
use Rattle.wt_tiles.specs.Tiles.{tag_tile, switch_at, link_or_url, form_at as tile_form_at, closed as tiles_closed, shapes, tiles}
use Rattle.wt_quotes.specs.Toggles.{toggle_at, toggles_of}
use Rattle.wt_quotes.specs.Styles.{style_tree_of}
use Rattle.wt_context.specs.Segments.{loose_segments}
use Rattle.wt_context.specs.Chunks.{chunks}
use Rattle.wt_context.specs.Styled.{with_styles}
use Rattle.wt_context.specs.Nodes.{segments}
use Rattle.wt_context.specs.Line.{context_parts}
use Rattle.wt_page.specs.Rows.{rows}
use Rattle.wt_page.specs.Tables.{cell_stretches, row_stretches, table_by}
use Rattle.wt_page.specs.Texts.{para}
use Rattle.wt_page.specs.Body.{blocks, meaning}
use Rattle.wt_annotated.specs.Annotated.{annotated}
use Rattle.wt_annotated.specs.GroupData.{group_data}
use Rattle.wt_annotated.specs.Labels.{label_at}
use Rattle.wt_expand.specs.PageItems.{page_items}
use Rattle.wt_text_edit_laws.specs.Parts.{part_tree}
use Rattle.wt_text_edit_laws.specs.TypedPages.{IsTypedPage}
use Rattle.wt_called_edit_laws.specs.CellEdits.{CellPage, page_with, IsCellPage}
use Rattle.wt_called_edit_laws.proofs.Cells.Cases.{in_a_cell}

unfoldable mutual
  pub is_free : Tree → Bool
  is_free (tree l ts) = not (is_group l.kind) && are_free ts

  pub are_free : Trees → Bool
  are_free none = true
  are_free (more t ts) = is_free t && are_free ts

both_true : (a b : Bool) → (a && b) ≡ true → (a ≡ true) × (b ≡ true)
both_true true true e = (refl, refl)
both_true true false e = cc
both_true false b e = cc

not_true : (a : Bool) → not a ≡ true → a ≡ false
not_true true e = cc
not_true false e = refl

mutual
  unfolding is_free are_free

  pub free_node : (t : Tree) → is_free t ≡ true → HasNoGroup t
  free_node (tree l ts) e = let r = both_true (not (is_group l.kind)) (are_free ts) e in (not_true (is_group l.kind) r.0, free_nodes ts r.1)

  free_nodes : (ts : Trees) → are_free ts ≡ true → NoneIsGroup ts
  free_nodes none e = tt
  free_nodes (more t ts) e = let r = both_true (is_free t) (are_free ts) e in (free_node t r.0, free_nodes ts r.1)

abbrev small : CellPage
small = record { before = codes "{|\n|\n"; text = codes "b"; behind = codes "\n|}" }

was : page_with small small.text ≡ codes "{|\n|\nb\n|}"
was = refl

typed_b : IsTypedPage (codes "b")
unfolding is_guarded is_between_guard is_start_guard is_end_guard is_blank_guard is_parted hazard line_start_hazard nowiki is_escaped chars lib.Utf8.encode
typed_b = record {
  setting = record { within = false; place = place.Paragraph; source = [] };
  text = codes "b";
  utf8 = (codes "b", (refl, refl));
  of_block = refl;
  is = refl;
}

free_page : is_free (part_tree (codes "{|\n|\nb\n|}")) ≡ true
unfolding is_free are_free page_items words closed form_at comment_len comment_line_len raw_len opening_tag closing_tag include_at entity_at named_entity decimal_entity
    hex_entity entity_names sign_word kind_of_signs annotated group_data label_at meaning rows blocks children para cell_stretches row_stretches table_by single_at
    bar_at cell_of cells table_attributes row_attributes inner_len
    context_parts segments tiles shapes tiles_closed tile_form_at link_or_url link_at ext_link_at bare_url_at scheme_len kept_len
    tag_tile tag_at tile_opening_tag tile_closing_tag switch_at loose_segments chunks with_styles style_tree_of toggles_of toggle_at
free_page = refl

before_utf8 : IsUtf8 (codes "{|\n|\n")
unfolding lib.Utf8.encode
before_utf8 = (codes "{|\n|\n", (refl, refl))

behind_utf8 : IsUtf8 (codes "\n|}")
unfolding lib.Utf8.encode
behind_utf8 = (codes "\n|}", (refl, refl))

in_class : IsCellPage small
unfolding page_items words closed form_at comment_len comment_line_len raw_len opening_tag closing_tag include_at entity_at named_entity decimal_entity
    hex_entity entity_names sign_word
in_class = record {
  stands = record { ends = refl; has_ends = (refl, (refl, (refl, (refl, (refl, refl))))) };
  follows = record { uncommented = refl };
  before_utf8 = before_utf8;
  behind_utf8 = behind_utf8;
  calls_nothing = tt;
  in_cell = in_a_cell;
  is_typed = typed_b;
  ungrouped = free_node (part_tree (codes "{|\n|\nb\n|}")) free_page;
}
