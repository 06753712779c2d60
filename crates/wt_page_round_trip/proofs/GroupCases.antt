-- A worked case of a page with a group: a style that is opened again where another one ends, and holds nothing.
use Rattle.std.proofs.Common.{◌≡◌, ℕ, List, [], refl, codes}
use Rattle.std.specs.Fmt.{digits}
use Rattle.wt_tree.specs.Tree.{Tree}
use Rattle.serde_json.proofs.OnLiterals.{serde_json_on_literals}
use Rattle.wt_span.specs.Comments.{comment_len, comment_line_len}
use Rattle.wt_span.specs.Entities.{entity_at, named_entity, decimal_entity, hex_entity, entity_names}
use Rattle.wt_span.specs.Tags.{raw_len, opening_tag, tag_after, closing_tag, with_inside, is_extension, include_at}
use Rattle.wt_span.specs.Lexemes.{sign_word, form_at, closed, words}
use Rattle.wt_lines.specs.Kinds.{kind_of_signs}
use Rattle.wt_datamw.specs.Mw.{mw_text}
use Rattle.wt_datamw.specs.Sync.{sync_text, sync_members}
use Rattle.wt_tree.specs.Kinds.{spelling, attribute_name}
use Rattle.wt_schema.specs.Escapes.{escape, escape_double, escape_single}
use Rattle.wt_schema.specs.Html.{attribute, id_attribute, mw_attribute, sync_of, sync_start, sync_value, sync_attribute, attributes_of, start_tag, void_tag, end_tag, about_attribute, first_attributes, next_attributes, frame_start, frame_end, html_text}
use Rattle.wt_expand.specs.PageItems.{page_items}
use Rattle.wt_inline.specs.Parts.{children}
use Rattle.wt_tiles.specs.Links.{link_at}
use Rattle.wt_tiles.specs.Urls.{scheme_len, kept_len, ext_link_at, bare_url_at}
use Rattle.wt_tiles.specs.Tags.{tag_at, opening_tag as tile_opening_tag, closing_tag as tile_closing_tag}
use Rattle.wt_tiles.specs.Tiles.{tag_tile, switch_at, link_or_url, form_at as tile_form_at, closed as tiles_closed, shapes, tiles}
use Rattle.wt_quotes.specs.Toggles.{toggle_at, toggles_of}
use Rattle.wt_quotes.specs.Runs.{place_of}
use Rattle.wt_quotes.specs.Styles.{style_tree_of}
use Rattle.wt_quotes.specs.Turns.{turn_at, is_bold_outside_at, since, bold_ends_later, next, effect_on}
use Rattle.wt_context.specs.Segments.{loose_segments}
use Rattle.wt_context.specs.Chunks.{chunks}
use Rattle.wt_context.specs.Styled.{with_styles}
use Rattle.wt_context.specs.Nodes.{segments}
use Rattle.wt_context.specs.Line.{context_parts, line_trees}
use Rattle.wt_page.specs.Texts.{para}
use Rattle.wt_page.specs.Rows.{rows as rows_of}
use Rattle.wt_page.specs.Body.{blocks, meaning}
use Rattle.wt_annotated.specs.Annotated.{annotated}
use Rattle.wt_annotated.specs.GroupData.{group_data}
use Rattle.wt_annotated.specs.GroupWord.{transclusion_word}
use Rattle.wt_annotated.specs.Labels.{label_at}

-- the tree of a page that calls nothing
abbrev page_tree : List ℕ → Tree
page_tree page = annotated [] (group_data []) (meaning (page_items page))

pub empty_style : html_text (page_tree (codes "'''a''b'''"))
    ≡ codes "<!DOCTYPE html><html><head><meta charset=\"utf-8\"/></head><body data-parsoid='{\"dsr\":[0,10,0,0]}'><p id=\"mw1\" data-parsoid='{\"dsr\":[0,10,0,0]}'><b id=\"mw2\" data-parsoid='{\"c\":\"&#39;&#39;&#39;\",\"dsr\":[0,10,3,3],\"o\":\"&#39;&#39;&#39;\"}'>a<i id=\"mw3\" data-parsoid='{\"dsr\":[4,7,2,0],\"o\":\"&#39;&#39;\"}'>b</i></b><i about=\"#mwt1\" typeof=\"mw:Transclusion\" id=\"mw4\" data-mw='{\"parts\":[]}' data-parsoid='{\"dsr\":[10,10,0,0],\"src\":\"\"}'></i></p></body></html>"
unfolding page_items words closed form_at comment_len comment_line_len raw_len opening_tag tag_after closing_tag with_inside
    is_extension include_at entity_at named_entity decimal_entity hex_entity entity_names sign_word annotated label_at meaning
    rows_of blocks kind_of_signs children para group_data transclusion_word
    line_trees context_parts segments tiles shapes tiles_closed tile_form_at link_or_url link_at ext_link_at bare_url_at scheme_len kept_len
    tag_tile tag_at tile_opening_tag tile_closing_tag switch_at loose_segments chunks with_styles style_tree_of toggles_of toggle_at
    turn_at is_bold_outside_at since bold_ends_later next effect_on place_of
    html_text frame_start frame_end about_attribute first_attributes next_attributes
    start_tag void_tag end_tag attributes_of attribute attribute_name id_attribute mw_attribute sync_of sync_start sync_value
    sync_attribute spelling sync_text sync_members mw_text escape escape_double escape_single serde_json_on_literals digits lib.Utf8.encode
empty_style = refl
