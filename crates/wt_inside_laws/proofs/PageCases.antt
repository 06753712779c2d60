-- Worked cases of whole pages without calls, by computing: the tree of the new page is that of the page in which a block holds what
-- its new source means by itself.
use Rattle.std.proofs.Common.{◌≡◌, ℕ, List, refl, codes, length}
use Rattle.std.specs.Fmt.{digits}
use Rattle.wt_tree.specs.Kinds.{spelling}
use Rattle.wt_tree.specs.Tree.{Tree, tree, Trees, none, more}
use Rattle.wt_span.specs.Comments.{comment_len, comment_line_len}
use Rattle.wt_span.specs.Entities.{entity_at, named_entity, decimal_entity, hex_entity, entity_names}
use Rattle.wt_span.specs.Tags.{raw_len, opening_tag, tag_after, closing_tag, with_inside as tag_inside, is_extension, include_at}
use Rattle.wt_span.specs.Lexemes.{sign_word, form_at, closed, words}
use Rattle.wt_lines.specs.Kinds.{kind_of_signs}
use Rattle.wt_expand.specs.PageItems.{page_items}
use Rattle.wt_inline.specs.Carried.{extension_typeof, noinclude_typeof, onlyinclude_typeof, includeonly_typeof, extension_data}
use Rattle.wt_inline.specs.Parts.{children, nowiki}
use Rattle.wt_tiles.specs.Links.{link_at}
use Rattle.wt_tiles.specs.Urls.{scheme_len, kept_len, ext_link_at, bare_url_at}
use Rattle.wt_tiles.specs.Tags.{tag_at, opening_tag as tile_opening_tag, closing_tag as tile_closing_tag}
use Rattle.wt_tiles.specs.Tiles.{tag_tile, switch_at, link_or_url, form_at as tile_form_at, closed as tiles_closed, shapes, tiles}
use Rattle.wt_quotes.specs.Toggles.{toggle_at, toggles_of}
use Rattle.wt_quotes.specs.Styles.{style_tree_of}
use Rattle.wt_context.specs.Segments.{loose_segments}
use Rattle.wt_context.specs.Chunks.{chunks}
use Rattle.wt_context.specs.Styled.{with_styles}
use Rattle.wt_context.specs.Nodes.{segments}
use Rattle.wt_context.specs.Line.{context_parts, line_trees}
use Rattle.wt_page.specs.Headings.{heading}
use Rattle.wt_page.specs.Texts.{para}
use Rattle.wt_page.specs.Rows.{rows as rows_of}
use Rattle.wt_blocks.specs.Headings.{level, opening, inside, closing}
use Rattle.wt_page.specs.Body.{blocks, meaning}
use Rattle.wt_annotated.specs.WithoutCalls.{annotated}
use Rattle.wt_annotated.specs.Labels.{label_at}
use Rattle.wt_sections.specs.Sections.{with_sections}
use Rattle.wt_inside_laws.specs.Replaced.{Edit, with_inside}

-- the tree of a page that has no group
abbrev page_tree : List ℕ → Tree
page_tree page = with_sections (annotated (meaning (page_items page)))

abbrev held : Tree → Trees
held (tree l ts) = ts

abbrev held_by_first : Trees → Trees
held_by_first none = none
held_by_first (more t ts) = held t

-- what the first block of a page without a heading before it holds: it stands in the lead
abbrev first_block : List ℕ → Trees
first_block page = held_by_first (held_by_first (held (page_tree page)))

-- the first block of a page, whose old source has so many bytes and whose new source is this, with so many numbers in it
abbrev retyped : ℕ → List ℕ → ℕ → Edit
retyped size source last = record {
  number = 1;
  inside = first_block source;
  old_end = size;
  new_end = length source;
  old_last = 1;
  new_last = last;
}

-- `a` and a line break: `* [[x]] & ''y''` typed in its place
typed_signs : with_inside (retyped 1 (codes "<nowiki/>* &#91;&#91;x&#93;&#93; & &#39;&#39;y&#39;&#39;") 10) (page_tree (codes "a\n"))
    ≡ page_tree (codes "<nowiki/>* &#91;&#91;x&#93;&#93; & &#39;&#39;y&#39;&#39;\n")
unfolding page_items words closed form_at comment_len comment_line_len raw_len opening_tag tag_after closing_tag tag_inside
    is_extension include_at entity_at named_entity decimal_entity hex_entity entity_names sign_word annotated label_at meaning
    rows_of blocks kind_of_signs children para heading level opening inside closing nowiki
    line_trees context_parts segments tiles shapes tiles_closed tile_form_at link_or_url link_at ext_link_at bare_url_at scheme_len kept_len
    tag_tile tag_at tile_opening_tag tile_closing_tag switch_at loose_segments chunks with_styles style_tree_of toggles_of toggle_at
    extension_typeof noinclude_typeof onlyinclude_typeof includeonly_typeof extension_data digits lib.Utf8.encode spelling
typed_signs = refl

-- a heading with its section stands behind: it moves by four bytes and one number
moved_behind : with_inside (retyped 2 (codes "x&#91;") 2) (page_tree (codes "ab\n== c ==")) ≡ page_tree (codes "x&#91;\n== c ==")
unfolding page_items words closed form_at comment_len comment_line_len raw_len opening_tag tag_after closing_tag tag_inside
    is_extension include_at entity_at named_entity decimal_entity hex_entity entity_names sign_word annotated label_at meaning
    rows_of blocks kind_of_signs children para heading level opening inside closing nowiki
    line_trees context_parts segments tiles shapes tiles_closed tile_form_at link_or_url link_at ext_link_at bare_url_at scheme_len kept_len
    tag_tile tag_at tile_opening_tag tile_closing_tag switch_at loose_segments chunks with_styles style_tree_of toggles_of toggle_at
    extension_typeof noinclude_typeof onlyinclude_typeof includeonly_typeof extension_data digits lib.Utf8.encode spelling
moved_behind = refl

-- a heading, in which `= b =` is typed
heading_signs : with_inside (retyped 7 (codes "== <nowiki/>= b &#61; ==") 3) (page_tree (codes "== a ==")) ≡ page_tree (codes "== <nowiki/>= b &#61; ==")
unfolding page_items words closed form_at comment_len comment_line_len raw_len opening_tag tag_after closing_tag tag_inside
    is_extension include_at entity_at named_entity decimal_entity hex_entity entity_names sign_word annotated label_at meaning
    rows_of blocks kind_of_signs children para heading level opening inside closing nowiki
    line_trees context_parts segments tiles shapes tiles_closed tile_form_at link_or_url link_at ext_link_at bare_url_at scheme_len kept_len
    tag_tile tag_at tile_opening_tag tile_closing_tag switch_at loose_segments chunks with_styles style_tree_of toggles_of toggle_at
    extension_typeof noinclude_typeof onlyinclude_typeof includeonly_typeof extension_data digits lib.Utf8.encode spelling
heading_signs = refl

-- `a`, of which nothing is left
nothing_left : with_inside (retyped 1 (codes "<nowiki/>") 2) (page_tree (codes "a")) ≡ page_tree (codes "<nowiki/>")
unfolding page_items words closed form_at comment_len comment_line_len raw_len opening_tag tag_after closing_tag tag_inside
    is_extension include_at entity_at named_entity decimal_entity hex_entity entity_names sign_word annotated label_at meaning
    rows_of blocks kind_of_signs children para heading level opening inside closing nowiki
    line_trees context_parts segments tiles shapes tiles_closed tile_form_at link_or_url link_at ext_link_at bare_url_at scheme_len kept_len
    tag_tile tag_at tile_opening_tag tile_closing_tag switch_at loose_segments chunks with_styles style_tree_of toggles_of toggle_at
    extension_typeof noinclude_typeof onlyinclude_typeof includeonly_typeof extension_data digits lib.Utf8.encode spelling
nothing_left = refl

-- lines `a` and `b`: `* c` typed in place of `b`
second_line : with_inside (retyped 3 (codes "a\n<nowiki/>* c") 2) (page_tree (codes "a\nb")) ≡ page_tree (codes "a\n<nowiki/>* c")
unfolding page_items words closed form_at comment_len comment_line_len raw_len opening_tag tag_after closing_tag tag_inside
    is_extension include_at entity_at named_entity decimal_entity hex_entity entity_names sign_word annotated label_at meaning
    rows_of blocks kind_of_signs children para heading level opening inside closing nowiki
    line_trees context_parts segments tiles shapes tiles_closed tile_form_at link_or_url link_at ext_link_at bare_url_at scheme_len kept_len
    tag_tile tag_at tile_opening_tag tile_closing_tag switch_at loose_segments chunks with_styles style_tree_of toggles_of toggle_at
    extension_typeof noinclude_typeof onlyinclude_typeof includeonly_typeof extension_data digits lib.Utf8.encode spelling
second_line = refl
