-- Worked cases of the whole way from a page to its HTML, each computed.
use Rattle.std.proofs.Common.{◌≡◌, ℕ, List, refl, codes}
use Rattle.wt_tree.specs.Tree.{Tree}
use Rattle.std.specs.Fmt.{digits}
use Rattle.serde_json.proofs.OnLiterals.{serde_json_on_literals}
use Rattle.wt_span.specs.Comments.{comment_len, comment_line_len}
use Rattle.wt_span.specs.Entities.{entity_at, named_entity, decimal_entity, hex_entity, entity_names}
use Rattle.wt_span.specs.Tags.{raw_len, opening_tag, tag_after, closing_tag, with_inside, is_extension, include_at}
use Rattle.wt_span.specs.Lexemes.{sign_word, form_at, closed, words}
use Rattle.wt_lines.specs.Kinds.{kind_of_signs}
use Rattle.wt_datamw.specs.Mw.{mw_text}
use Rattle.wt_datamw.specs.Sync.{sync_text, sync_members}
use Rattle.wt_tree.specs.Kinds.{spelling, attribute_name}
use Rattle.wt_schema.specs.Escapes.{escape, escape_double, escape_single}
use Rattle.wt_schema.specs.Html.{attribute, id_attribute, mw_attribute, sync_of, sync_start, sync_value, sync_attribute, attributes_of, start_tag, void_tag, end_tag, frame_start, frame_end, html_text}
use Rattle.wt_expand.specs.PageItems.{page_items}
use Rattle.wt_inline.specs.Carried.{extension_typeof, noinclude_typeof, onlyinclude_typeof, includeonly_typeof, extension_data}
use Rattle.wt_inline.specs.Parts.{children, nowiki}
use Rattle.wt_tiles.specs.Links.{link_at}
use Rattle.wt_tiles.specs.Urls.{scheme_len, kept_len, ext_link_at, bare_url_at}
use Rattle.wt_tiles.specs.Tags.{tag_at, opening_tag as tile_opening_tag, closing_tag as tile_closing_tag}
use Rattle.wt_tiles.specs.Tiles.{tag_tile, switch_at, link_or_url, form_at as tile_form_at, closed as tiles_closed, shapes, tiles}
use Rattle.wt_quotes.specs.Toggles.{toggle_at, toggles_of}
use Rattle.wt_quotes.specs.Styles.{style_tree_of}
use Rattle.wt_context.specs.Segments.{loose_segments}
use Rattle.wt_context.specs.Chunks.{chunks}
use Rattle.wt_context.specs.Styled.{with_styles}
use Rattle.wt_context.specs.Nodes.{segments}
use Rattle.wt_context.specs.Line.{context_parts, line_trees}
use Rattle.wt_page.specs.Headings.{heading}
use Rattle.wt_page.specs.Texts.{para}
use Rattle.wt_page.specs.Rows.{rows as rows_of}
use Rattle.wt_blocks.specs.Headings.{level, opening, inside, closing}
use Rattle.wt_page.specs.Body.{blocks, meaning}
use Rattle.wt_annotated.specs.WithoutCalls.{annotated}
use Rattle.wt_annotated.specs.Labels.{label_at}

-- the tree of a page that has no group
abbrev page_tree : List ℕ → Tree
page_tree page = annotated (meaning (page_items page))

-- an include tag in a heading
include_tag : html_text (page_tree (codes "== </onlyinclude> ==\n\n"))
    ≡ codes "<!DOCTYPE html><html><head><meta charset=\"utf-8\"/></head><body data-parsoid='{\"dsr\":[0,22,0,0]}'><h2 id=\"mw1\" data-parsoid='{\"c\":\" ==\",\"dsr\":[0,20,3,3],\"o\":\"== \"}'><meta typeof=\"mw:Includes/OnlyInclude/End\" id=\"mw2\" data-parsoid='{\"dsr\":[3,17,14,0],\"src\":\"&lt;/onlyinclude&gt;\"}'/></h2>\n\n</body></html>"
unfolding page_items words closed form_at comment_len comment_line_len raw_len opening_tag tag_after closing_tag with_inside
    is_extension include_at entity_at named_entity decimal_entity hex_entity entity_names sign_word annotated label_at meaning
    rows_of blocks kind_of_signs children para heading level opening inside closing nowiki
    line_trees context_parts segments tiles shapes tiles_closed tile_form_at link_or_url link_at ext_link_at bare_url_at scheme_len kept_len
    tag_tile tag_at tile_opening_tag tile_closing_tag switch_at loose_segments chunks with_styles style_tree_of toggles_of toggle_at
    extension_typeof noinclude_typeof onlyinclude_typeof includeonly_typeof extension_data html_text frame_start frame_end
    start_tag void_tag end_tag attributes_of attribute attribute_name id_attribute mw_attribute sync_of sync_start sync_value
    sync_attribute spelling sync_text sync_members mw_text escape escape_double escape_single serde_json_on_literals digits lib.Utf8.encode
include_tag = refl

-- an extension, its name in capitals
extension : html_text (page_tree (codes "<REF>y</Ref>a\n"))
    ≡ codes "<!DOCTYPE html><html><head><meta charset=\"utf-8\"/></head><body data-parsoid='{\"dsr\":[0,14,0,0]}'><p id=\"mw1\" data-parsoid='{\"dsr\":[0,13,0,0]}'><span typeof=\"mw:Extension/ref\" id=\"mw2\" data-mw='{\"body\":{\"extsrc\":\"y\"},\"name\":\"ref\"}' data-parsoid='{\"dsr\":[0,12,12,0],\"src\":\"&lt;REF&gt;y&lt;/Ref&gt;\"}'></span>a</p>\n</body></html>"
unfolding page_items words closed form_at comment_len comment_line_len raw_len opening_tag tag_after closing_tag with_inside
    is_extension include_at entity_at named_entity decimal_entity hex_entity entity_names sign_word annotated label_at meaning
    rows_of blocks kind_of_signs children para heading level opening inside closing nowiki
    line_trees context_parts segments tiles shapes tiles_closed tile_form_at link_or_url link_at ext_link_at bare_url_at scheme_len kept_len
    tag_tile tag_at tile_opening_tag tile_closing_tag switch_at loose_segments chunks with_styles style_tree_of toggles_of toggle_at
    extension_typeof noinclude_typeof onlyinclude_typeof includeonly_typeof extension_data html_text frame_start frame_end
    start_tag void_tag end_tag attributes_of attribute attribute_name id_attribute mw_attribute sync_of sync_start sync_value
    sync_attribute spelling sync_text sync_members mw_text escape escape_double escape_single serde_json_on_literals digits lib.Utf8.encode
extension = refl
