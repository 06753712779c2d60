-- A worked case of a page with blocks anywhere, by computing: a paragraph in a cell, a heading and a paragraph in the next one, and a paragraph
-- behind the table.
use Rattle.std.proofs.Common.{◌≡◌, ℕ, arith, true, false, List, [], ◌∷◌, inl, refl}
use Rattle.std.specs.Prelude.{codes}
use Rattle.std.specs.Str.{chars, IsUtf8}
use Rattle.wt_tree.specs.declared.edit_shape.Place.TheVariants as place
use Rattle.wt_span.specs.Comments.{comment_len, comment_line_len}
use Rattle.wt_span.specs.Entities.{named_entity, entity_names, decimal_entity, hex_entity, entity_at}
use Rattle.wt_span.specs.Lexemes.{sign_word, form_at, closed, words}
use Rattle.wt_span.specs.Tags.{opening_tag, closing_tag, raw_len, include_at}
use Rattle.wt_lines.specs.Kinds.{kind_of_signs}
use Rattle.wt_blocks.specs.Headings.{opening, inside, closing}
use Rattle.wt_tables.specs.Cells.{single_at, bar_at, cell_of, cells, table_attributes, row_attributes}
use Rattle.wt_tables.specs.Extents.{inner_len}
use Rattle.wt_guards.specs.Guards.{nowiki, is_guarded, is_between_guard, is_start_guard, is_end_guard, is_blank_guard, is_parted}
use Rattle.wt_guards.specs.Letters.{is_escaped}
use Rattle.wt_guards.specs.Table.{hazard, line_start_hazard}
use Rattle.wt_page.specs.Headings.{heading}
use Rattle.wt_inline.specs.Parts.{children}
use Rattle.wt_tiles.specs.Links.{link_at}
use Rattle.wt_tiles.specs.Urls.{scheme_len, kept_len, ext_link_at, bare_url_at}
use Rattle.wt_tiles.specs.Tags.{tag_at, opening_tag as tile_opening_tag, closing_tag as tile_closing_tag}
use Rattle.wt_tiles.specs.Tiles.{tag_tile, switch_at, link_or_url, form_at as tile_form_at, closed as tiles_closed, shapes, tiles}
use Rattle.wt_quotes.specs.Toggles.{toggle_at, toggles_of}
use Rattle.wt_quotes.specs.Styles.{style_tree_of}
use Rattle.wt_context.specs.Segments.{loose_segments}
use Rattle.wt_context.specs.Chunks.{chunks}
use Rattle.wt_context.specs.Styled.{with_styles}
use Rattle.wt_context.specs.Nodes.{segments}
use Rattle.wt_context.specs.Line.{context_parts, line_trees}
use Rattle.wt_page.specs.Rows.{rows}
use Rattle.wt_page.specs.Tables.{cell_stretches, row_stretches, table_by}
use Rattle.wt_page.specs.Texts.{para}
use Rattle.wt_page.specs.Body.{blocks, meaning}
use Rattle.wt_annotated.specs.Annotated.{annotated}
use Rattle.wt_annotated.specs.GroupData.{group_data}
use Rattle.wt_annotated.specs.Labels.{label_at}
use Rattle.wt_expand.specs.PageItems.{page_items}
use Rattle.wt_text_edit_laws.specs.BlockSpots.{BlockSpot, spots_source, AsAWhole}
use Rattle.wt_text_edit_laws.specs.Parts.{part_tree}
use Rattle.wt_text_edit_laws.specs.TextBlocks.{a_paragraph, a_heading, IsFrame, IsTypedHeading}
use Rattle.wt_text_edit_laws.specs.TypedHeadings.{spaced}
use Rattle.wt_text_edit_laws.proofs.Blocks.Contents.{typed_firmly}
use Rattle.wt_text_edit_laws.specs.TypedPages.{IsTypedPage}
use Rattle.wt_called_edit_laws.specs.AnyBlocks.{AreParts, AreSpots}
use Rattle.wt_called_edit_laws.proofs.Cells.Cells.{typed_stays_text}
use Rattle.wt_called_edit_laws.proofs.Cells.PageCases.{is_free, are_free, free_node}

-- ---- the page

abbrev pub a_spot : List ℕ → List ℕ → BlockSpot
a_spot before text = record { before = before; block = a_paragraph; text = text }

abbrev blocks_here : List BlockSpot
blocks_here =
    a_spot (codes "{|\n|\n") (codes "a")
    ∷ record { before = codes "\n|\n"; block = a_heading (spaced 2); text = codes "h" }
    ∷ a_spot (codes "\n") (codes "b") ∷ a_spot (codes "\n|}\n\n") (codes "c") ∷ []

was : spots_source blocks_here [] ≡ codes "{|\n|\na\n|\n== h ==\nb\n|}\n\nc"
was = refl

-- ---- its texts

pub typed_a : IsTypedPage (codes "a")
unfolding is_guarded is_between_guard is_start_guard is_end_guard is_blank_guard is_parted hazard line_start_hazard nowiki is_escaped chars lib.Utf8.encode
typed_a = record {
  setting = record { within = false; place = place.Paragraph; source = [] };
  text = codes "a";
  utf8 = (codes "a", (refl, refl));
  of_block = refl;
  is = refl;
}

typed_b : IsTypedPage (codes "b")
unfolding is_guarded is_between_guard is_start_guard is_end_guard is_blank_guard is_parted hazard line_start_hazard nowiki is_escaped chars lib.Utf8.encode
typed_b = record {
  setting = record { within = false; place = place.Paragraph; source = [] };
  text = codes "b";
  utf8 = (codes "b", (refl, refl));
  of_block = refl;
  is = refl;
}

typed_c : IsTypedPage (codes "c")
unfolding is_guarded is_between_guard is_start_guard is_end_guard is_blank_guard is_parted hazard line_start_hazard nowiki is_escaped chars lib.Utf8.encode
typed_c = record {
  setting = record { within = false; place = place.Paragraph; source = [] };
  text = codes "c";
  utf8 = (codes "c", (refl, refl));
  of_block = refl;
  is = refl;
}

second_level : IsFrame (spaced 2)
unfolding page_items words closed form_at comment_len comment_line_len raw_len opening_tag closing_tag include_at entity_at named_entity decimal_entity
    hex_entity entity_names sign_word lib.Utf8.encode
second_level = record {
  sides = record { some = omega arith; most = omega arith; lead = (refl, tt); trail = (refl, tt); rest = tt };
  utf8 = ([], (refl, refl));
  stands = record { ends = refl; has_ends = (refl, refl) };
  ended = refl;
}

pub typed_h : IsTypedHeading (spaced 2) (codes "h")
unfolding is_guarded is_between_guard is_start_guard is_end_guard is_blank_guard is_parted hazard line_start_hazard nowiki is_escaped chars lib.Utf8.encode
typed_h = record {
  frame = second_level;
  setting = record { within = false; place = place.Heading; source = [] };
  text = codes "h";
  utf8 = (codes "h", (refl, refl));
  one_line = refl;
  of_block = refl;
  of_heading = refl;
  is = refl;
}

-- ---- its parts

utf8_first : IsUtf8 (codes "{|\n|\n")
unfolding lib.Utf8.encode
utf8_first = (codes "{|\n|\n", (refl, refl))

utf8_second : IsUtf8 (codes "\n|\n")
unfolding lib.Utf8.encode
utf8_second = (codes "\n|\n", (refl, refl))

utf8_third : IsUtf8 (codes "\n")
unfolding lib.Utf8.encode
utf8_third = (codes "\n", (refl, refl))

utf8_last : IsUtf8 (codes "\n|}\n\n")
unfolding lib.Utf8.encode
utf8_last = (codes "\n|}\n\n", (refl, refl))

utf8_end : IsUtf8 []
unfolding lib.Utf8.encode
utf8_end = ([], (refl, refl))

parts_here : AreParts blocks_here []
unfolding page_items words closed form_at comment_len comment_line_len raw_len opening_tag closing_tag include_at entity_at named_entity decimal_entity
    hex_entity entity_names sign_word kind_of_signs
parts_here = (
  (record { ended = refl; before_utf8 = utf8_first; block = inl typed_a }, record { whole = inl refl; in_cells = (refl, tt); apart = refl }, typed_stays_text 1 (codes "a") typed_a),
  (
    (refl, refl),
    (record { ended = refl; before_utf8 = utf8_second; block = inl typed_h }, record { whole = inl refl; in_cells = (refl, tt); apart = tt }, tt),
    (
      (refl, tt),
      (record { ended = refl; before_utf8 = utf8_third; block = inl typed_b }, record { whole = inl refl; in_cells = (refl, tt); apart = tt }, typed_stays_text 1 (codes "b") typed_b),
      (
        (refl, refl),
        (record { ended = refl; before_utf8 = utf8_last; block = inl typed_c }, record { whole = inl refl; in_cells = tt; apart = refl }, typed_stays_text 0 (codes "c") typed_c),
        (record { uncommented = refl }, utf8_end, tt),
      ),
    ),
  ),
)

-- ---- the whole

whole_here : AsAWhole blocks_here []
unfolding page_items words closed form_at comment_len comment_line_len raw_len opening_tag closing_tag include_at entity_at named_entity decimal_entity
    hex_entity entity_names sign_word
whole_here = record {
  calls_nothing = tt;
  end_before = (
    (refl, (refl, (refl, (refl, (refl, refl))))),
    inl (typed_firmly a_paragraph (codes "a") typed_a),
    (
      (refl, (refl, (refl, refl))),
      inl (typed_firmly (a_heading (spaced 2)) (codes "h") typed_h),
      (
        (refl, refl),
        inl (typed_firmly a_paragraph (codes "b") typed_b),
        ((refl, (refl, (refl, (refl, (refl, refl))))), inl (typed_firmly a_paragraph (codes "c") typed_c), tt),
      ),
    ),
  );
}

free_here : is_free (part_tree (codes "{|\n|\na\n|\n== h ==\nb\n|}\n\nc")) ≡ true
unfolding is_free are_free page_items words closed form_at comment_len comment_line_len raw_len opening_tag closing_tag include_at entity_at named_entity decimal_entity
    hex_entity entity_names sign_word kind_of_signs annotated group_data label_at meaning rows blocks children para heading opening inside closing line_trees cell_stretches row_stretches table_by single_at
    bar_at cell_of cells table_attributes row_attributes inner_len
    context_parts segments tiles shapes tiles_closed tile_form_at link_or_url link_at ext_link_at bare_url_at scheme_len kept_len
    tag_tile tag_at tile_opening_tag tile_closing_tag switch_at loose_segments chunks with_styles style_tree_of toggles_of toggle_at
free_here = refl

-- So texts may be typed in all four.
in_class : AreSpots blocks_here []
in_class = record {
  parts = parts_here;
  whole = whole_here;
  ungrouped = free_node (part_tree (codes "{|\n|\na\n|\n== h ==\nb\n|}\n\nc")) free_here;
}
