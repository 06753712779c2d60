-- Worked cases of what may stand round a typed paragraph, by computing.
use Rattle.std.proofs.Common.{◌≡◌, None, [], ◌∷◌, ◌++◌, refl}
use Rattle.std.specs.Prelude.{codes}
use Rattle.wt_span.specs.Comments.{comment_len, comment_line_len}
use Rattle.wt_span.specs.Entities.{named_entity, entity_names, decimal_entity, hex_entity, entity_at}
use Rattle.wt_span.specs.Items.{char}
use Rattle.wt_span.specs.Lexemes.{sign_word, form_at, closed, words}
use Rattle.wt_span.specs.Tags.{tag_after, opening_tag, closing_tag, with_inside, is_extension, raw_len, include_at}
use Rattle.wt_lines.specs.Kinds.{kind_of_signs}
use Rattle.wt_lines.specs.Lines.{full_lines}
use Rattle.wt_guards.specs.Guards.{nowiki}
use Rattle.wt_expand.specs.PageItems.{page_items}
use Rattle.wt_blocks.specs.Nesting.{nested}
use Rattle.wt_inline.specs.Parts.{children}
use Rattle.wt_tables.specs.Extents.{inner_len}
use Rattle.wt_tables.specs.Cells.{single_at, bar_at, cell_of, table_attributes, row_attributes}
use Rattle.wt_tiles.specs.Links.{link_at}
use Rattle.wt_tiles.specs.Urls.{scheme_len, kept_len, ext_link_at, bare_url_at}
use Rattle.wt_tiles.specs.Tags.{tag_at, opening_tag as tile_opening_tag, closing_tag as tile_closing_tag}
use Rattle.wt_tiles.specs.Tiles.{tag_tile, switch_at, link_or_url, form_at as tile_form_at, closed as tiles_closed, shapes, tiles}
use Rattle.wt_quotes.specs.Toggles.{toggle_at, toggles_of}
use Rattle.wt_quotes.specs.Styles.{style_tree_of}
use Rattle.wt_context.specs.Segments.{loose_segments}
use Rattle.wt_context.specs.Chunks.{chunks}
use Rattle.wt_context.specs.Styled.{with_styles}
use Rattle.wt_context.specs.Nodes.{segments}
use Rattle.wt_context.specs.Line.{context_parts, line_trees}
use Rattle.wt_page.specs.Rows.{rows}
use Rattle.wt_page.specs.Lists.{colon_at, line_item, lists}
use Rattle.wt_page.specs.Tables.{cell_stretches, row_stretches, table_by}
use Rattle.wt_page.specs.Body.{blocks, meaning}
use Rattle.wt_annotated.specs.Annotated.{annotated}
use Rattle.wt_annotated.specs.GroupData.{group_data}
use Rattle.wt_annotated.specs.Labels.{label_at}
use Rattle.wt_text_edit_laws.specs.ParagraphBetween.{rows_of_lines, AreClosed, EndApart, EndsApart, EndsParagraph}
use Rattle.wt_text_edit_laws.specs.Parts.{HasNoGroups}
use Rattle.wt_text_edit_laws.specs.Paragraphs.{AreLetters, AreOneText}

-- ---- what stands before a paragraph

-- an empty line
list_above : EndsApart (page_items (codes "* a\n\n"))
unfolding page_items words closed form_at comment_len comment_line_len raw_len opening_tag closing_tag include_at entity_at named_entity decimal_entity
    hex_entity entity_names sign_word kind_of_signs
list_above = record { are_closed = record { whole = refl; closed = refl }; apart = refl }

-- a heading directly above the paragraph
heading_above : EndsApart (page_items (codes "\n== h ==\n"))
unfolding page_items words closed form_at comment_len comment_line_len raw_len opening_tag closing_tag include_at entity_at named_entity decimal_entity
    hex_entity entity_names sign_word kind_of_signs
heading_above = record { are_closed = record { whole = refl; closed = refl }; apart = refl }

-- and a table
table_above : EndsApart (page_items (codes "{|\n| b\n|}\n"))
unfolding page_items words closed form_at comment_len comment_line_len raw_len opening_tag closing_tag include_at entity_at named_entity decimal_entity
    hex_entity entity_names sign_word kind_of_signs
table_above = record { are_closed = record { whole = refl; closed = refl }; apart = refl }

-- a list item with a footnote
footnote_above : EndsApart (page_items (codes "* a<ref/>\n"))
unfolding page_items words closed form_at comment_len comment_line_len raw_len tag_after opening_tag closing_tag with_inside is_extension include_at
    entity_at named_entity decimal_entity hex_entity entity_names sign_word kind_of_signs
footnote_above = record { are_closed = record { whole = refl; closed = refl }; apart = refl }

-- a line of comments has its line break in it, and so is part of the line behind it
comment_above : AreClosed (page_items (codes "* a\n<!-- c -->\n")) → ⊥
unfolding page_items words closed form_at comment_len comment_line_len raw_len tag_after opening_tag closing_tag with_inside is_extension include_at
    entity_at named_entity decimal_entity hex_entity entity_names sign_word kind_of_signs
comment_above h = let e = h.whole in absurd (cc)

-- it stands above the paragraph, and so do several
comments_above : EndsApart (page_items (codes "* a\n<!-- c -->\n <!-- d --> <!-- e -->\n"))
unfolding page_items words closed form_at comment_len comment_line_len raw_len tag_after opening_tag closing_tag with_inside is_extension include_at
    entity_at named_entity decimal_entity hex_entity entity_names sign_word kind_of_signs
comments_above = record { are_closed = record { whole = refl; closed = refl }; apart = refl }

-- and so do a comment and an include tag on its own line
marks_before : EndsApart (page_items (codes "* a\n<!-- c --><noinclude>"))
unfolding page_items words closed form_at comment_len comment_line_len raw_len tag_after opening_tag closing_tag with_inside is_extension include_at
    entity_at named_entity decimal_entity hex_entity entity_names sign_word kind_of_signs
marks_before = record { are_closed = record { whole = refl; closed = refl }; apart = refl }

-- an open table takes the paragraph in, and with a line of text directly above it is one paragraph
open_table : AreClosed (page_items (codes "{|\n| b\n")) → ⊥
unfolding page_items words closed form_at comment_len comment_line_len raw_len opening_tag closing_tag include_at entity_at named_entity decimal_entity
    hex_entity entity_names sign_word kind_of_signs
open_table h = let e = h.closed in absurd (cc)

text_above : EndApart (rows_of_lines (page_items (codes "a\n"))) → ⊥
unfolding page_items words closed form_at comment_len comment_line_len raw_len opening_tag closing_tag include_at entity_at named_entity decimal_entity
    hex_entity entity_names sign_word kind_of_signs
text_above h = absurd (cc)

-- ---- what stands behind the last

rule_behind : EndsParagraph (page_items (codes "\n----\n"))
unfolding page_items words closed form_at comment_len comment_line_len raw_len opening_tag closing_tag include_at entity_at named_entity decimal_entity
    hex_entity entity_names sign_word kind_of_signs rows
rule_behind = (refl, refl)

comment_behind : EndsParagraph (page_items (codes "\n<!-- c -->\n* a"))
unfolding page_items words closed form_at comment_len comment_line_len raw_len tag_after opening_tag closing_tag with_inside is_extension include_at
    entity_at named_entity decimal_entity hex_entity entity_names sign_word kind_of_signs rows
comment_behind = (refl, refl)

-- ---- no groups

-- a list with an item and a text in it, and a separator
list_alone : HasNoGroups (codes "* a\n\n")
unfolding page_items words closed form_at comment_len comment_line_len raw_len opening_tag closing_tag include_at entity_at named_entity decimal_entity
    hex_entity entity_names sign_word kind_of_signs annotated group_data label_at meaning rows blocks children nested colon_at line_item lists
    line_trees context_parts segments tiles shapes tiles_closed tile_form_at link_or_url link_at ext_link_at bare_url_at scheme_len kept_len
    tag_tile tag_at tile_opening_tag tile_closing_tag switch_at loose_segments chunks with_styles style_tree_of toggles_of toggle_at
list_alone = (refl, ((refl, ((refl, ((refl, tt), tt)), tt)), ((refl, tt), tt)))

-- the same with a footnote in the item
footnote_alone : HasNoGroups (codes "* a<ref/>\n")
unfolding page_items words closed form_at comment_len comment_line_len raw_len tag_after opening_tag closing_tag with_inside is_extension include_at
    entity_at named_entity decimal_entity hex_entity entity_names sign_word kind_of_signs
    annotated group_data label_at meaning rows blocks children nested colon_at line_item lists
    line_trees context_parts segments tiles shapes tiles_closed tile_form_at link_or_url link_at ext_link_at bare_url_at scheme_len kept_len
    tag_tile tag_at tile_opening_tag tile_closing_tag switch_at loose_segments chunks with_styles style_tree_of toggles_of toggle_at
footnote_alone = (refl, ((refl, ((refl, ((refl, tt), ((refl, tt), tt))), tt)), ((refl, tt), tt)))

-- a table with a cell, between separators
table_alone : HasNoGroups (codes "\n\n{|\n| b\n|}\n\n")
unfolding page_items words closed form_at comment_len comment_line_len raw_len opening_tag closing_tag include_at entity_at named_entity decimal_entity
    hex_entity entity_names sign_word kind_of_signs annotated group_data label_at meaning rows blocks children
    line_trees context_parts segments tiles shapes tiles_closed tile_form_at link_or_url link_at ext_link_at bare_url_at scheme_len kept_len
    tag_tile tag_at tile_opening_tag tile_closing_tag switch_at loose_segments chunks with_styles style_tree_of toggles_of toggle_at
    inner_len single_at bar_at cell_of table_attributes row_attributes cell_stretches row_stretches table_by
table_alone = (
  refl,
  (
    (refl, tt),
    (
      (refl, ((refl, tt), ((refl, ((refl, ((refl, ((refl, tt), tt)), tt)), tt)), ((refl, tt), tt)))),
      ((refl, tt), tt),
    ),
  ),
)

-- ---- a text that was written by hand

-- an ampersand that begins no reference is a character, and a line break behind it is one, too
ampersand_written : AreLetters (page_items (codes "T&T"))
unfolding page_items words closed form_at comment_len comment_line_len raw_len opening_tag closing_tag include_at entity_at named_entity decimal_entity
    hex_entity entity_names sign_word
ampersand_written = tt

ampersand_ended : page_items (codes "T&T\n") ≡ page_items (codes "T&T") ++ char None 10 ∷ []
unfolding page_items words closed form_at comment_len comment_line_len raw_len opening_tag closing_tag include_at entity_at named_entity decimal_entity
    hex_entity entity_names sign_word
ampersand_ended = refl

reference_written : AreLetters (page_items (codes "&amp;"))
unfolding page_items words closed form_at comment_len comment_line_len raw_len opening_tag closing_tag include_at entity_at named_entity decimal_entity
    hex_entity entity_names sign_word
reference_written = ((refl, (refl, (refl, (refl, (refl, tt))))), tt)

-- and so is a `<nowiki/>` between two apostrophes
nowiki_written : AreLetters (page_items (codes "'<nowiki/>'"))
unfolding page_items words closed form_at comment_len comment_line_len raw_len tag_after opening_tag closing_tag with_inside is_extension include_at
    entity_at named_entity decimal_entity hex_entity entity_names sign_word nowiki
nowiki_written = (refl, tt)

-- and so is a `<` that begins no tag, and no tag that shows its inside is a text
less_written : AreLetters (page_items (codes "a < b"))
unfolding page_items words closed form_at comment_len comment_line_len raw_len opening_tag closing_tag include_at entity_at named_entity decimal_entity
    hex_entity entity_names sign_word
less_written = tt

less_text : AreOneText (full_lines (page_items (codes "a < b")))
unfolding page_items words closed form_at comment_len comment_line_len raw_len opening_tag closing_tag include_at entity_at named_entity decimal_entity
    hex_entity entity_names sign_word
    context_parts segments tiles shapes tiles_closed tile_form_at link_or_url link_at ext_link_at bare_url_at scheme_len kept_len
    tag_tile tag_at tile_opening_tag tile_closing_tag switch_at loose_segments chunks with_styles style_tree_of toggles_of toggle_at
less_text = (refl, refl, tt)

-- no link begins at a bracket before a blank
bracket_written : AreOneText (full_lines (page_items (codes "a [ b")))
unfolding page_items words closed form_at comment_len comment_line_len raw_len opening_tag closing_tag include_at entity_at named_entity decimal_entity
    hex_entity entity_names sign_word
    context_parts segments tiles shapes tiles_closed tile_form_at link_or_url link_at ext_link_at bare_url_at scheme_len kept_len
    tag_tile tag_at tile_opening_tag tile_closing_tag switch_at loose_segments chunks with_styles style_tree_of toggles_of toggle_at
bracket_written = (refl, refl, tt)
