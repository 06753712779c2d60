-- Worked case: the paragraph of the page `{{t}} {{t}}`, where `Template:T` is a word, is told by the line that it is on, and it may be edited at its path.
use Rattle.std.proofs.Common.{arith, ◌≡◌, inl, [], ◌∷◌, refl}
use Rattle.wt_checks.specs.Kept.{children as nodes_in}
use Rattle.wt_beside_laws.proofs.Groups.Cases.{a_word}
use Rattle.wt_called_edit_laws.specs.AllTold.{starts_in, IsOneOf}
use Rattle.wt_called_edit_laws.specs.Groups.{called_tree}
use Rattle.wt_called_edit_laws.proofs.Among.CallingCases.{a_line, told_by_lines}
use Rattle.wt_called_edit_laws.proofs.Beside.BothCases.{source}
use Rattle.wt_called_edit_laws.proofs.AllTold.CallingBytes.{taken_at}
use Rattle.wt_called_edit_laws.proofs.AllTold.Starts.{BlockIn}
use Rattle.std.specs.Str.{is_utf8, chars}
use lib.Utf8.{encode}
use Rattle.wt_span.specs.Comments.{comment_len, comment_line_len}
use Rattle.wt_span.specs.Entities.{entity_at, named_entity, decimal_entity, hex_entity, entity_names}
use Rattle.wt_span.specs.Tags.{raw_len, opening_tag, tag_after, closing_tag, with_inside, is_extension, include_at}
use Rattle.wt_span.specs.Lexemes.{sign_word, form_at, closed, words}
use Rattle.wt_span.specs.Braces.{rewritten, reduced, parts_of}
use Rattle.wt_lines.specs.Kinds.{kind_of_signs}
use Rattle.wt_names.specs.Good.{is_forbidden, is_allowed, has_signature, is_step, begins_with_step, holds_step, ends_with_step, is_good, read_text}
use Rattle.wt_names.specs.Namespace.{name_of, image, is_called, namespace_named, prefix_of, full_name_of}
use Rattle.wt_names.specs.Reading.{whole_in, cut_namespace, title_in}
use Rattle.wt_names.specs.Written.{link_to}
use Rattle.wt_inline.specs.Parts.{children}
use Rattle.wt_tiles.specs.Links.{link_at}
use Rattle.wt_tiles.specs.Urls.{scheme_len, ext_link_at, bare_url_at}
use Rattle.wt_tiles.specs.Tags.{tag_at, opening_tag as opens_tag, closing_tag as closes_tag}
use Rattle.wt_tiles.specs.Tiles.{tag_tile, switch_at, link_or_url, form_at as tile_at, closed as closes, shapes, tiles}
use Rattle.wt_quotes.specs.Toggles.{toggle_at, toggles_of}
use Rattle.wt_quotes.specs.Styles.{style_tree_of}
use Rattle.wt_context.specs.Segments.{loose_segments}
use Rattle.wt_context.specs.Chunks.{chunks}
use Rattle.wt_context.specs.Styled.{with_styles}
use Rattle.wt_context.specs.Nodes.{segments}
use Rattle.wt_context.specs.Line.{context_parts, line_trees}
use Rattle.wt_page.specs.Rows.{rows}
use Rattle.wt_page.specs.Texts.{para}
use Rattle.wt_page.specs.Body.{blocks, meaning}
use Rattle.wt_call_data.specs.CallData.{call_part, param_by, trimmed as trimmed_data}
use Rattle.wt_annotated.specs.Annotated.{annotated}
use Rattle.wt_annotated.specs.GroupData.{group_data}
use Rattle.wt_annotated.specs.Labels.{label_at}
use Rattle.wt_expand.specs.Texts.{trimmed, trimmed_items, name_text}
use Rattle.wt_expand.specs.Targets.{title_in_target, title_of_target, is_function, called}
use Rattle.wt_expand.specs.Templates.{begins_only, ends_only, template_text}
use Rattle.wt_expand.specs.Expansion.{text_members, most_templates, absent_text, loop_text, depth_text}
use Rattle.wt_expand.specs.PageCalls.{page_stretches, expanded_page}
use Rattle.std.specs.Str.Lossy.{utf8_valid_len}

-- the page's first node is a paragraph that has bytes
is_block : BlockIn 0 [] (nodes_in (called_tree a_word source))
unfolding words closed form_at comment_len comment_line_len raw_len opening_tag tag_after closing_tag with_inside is_extension
    include_at entity_at named_entity decimal_entity hex_entity entity_names sign_word reduced rewritten parts_of text_members trimmed
    trimmed_items name_text called most_templates is_function title_of_target title_in_target read_text is_allowed is_forbidden
    is_good has_signature is_step begins_with_step holds_step ends_with_step name_of image is_called namespace_named prefix_of
    full_name_of whole_in cut_namespace title_in template_text begins_only ends_only loop_text depth_text absent_text
    utf8_valid_len is_utf8 chars encode link_to page_stretches expanded_page kind_of_signs
    annotated group_data call_part param_by trimmed_data label_at meaning rows blocks children para line_trees
    context_parts chunks segments loose_segments tiles shapes closes tile_at link_or_url link_at ext_link_at bare_url_at scheme_len
    tag_tile tag_at switch_at with_styles style_tree_of toggles_of toggle_at opens_tag closes_tag
is_block = (refl, omega arith)

begins_there : starts_in 0 0 [] (nodes_in (called_tree a_word source)) ≡ 0
unfolding words closed form_at comment_len comment_line_len raw_len opening_tag tag_after closing_tag with_inside is_extension
    include_at entity_at named_entity decimal_entity hex_entity entity_names sign_word reduced rewritten parts_of text_members trimmed
    trimmed_items name_text called most_templates is_function title_of_target title_in_target read_text is_allowed is_forbidden
    is_good has_signature is_step begins_with_step holds_step ends_with_step name_of image is_called namespace_named prefix_of
    full_name_of whole_in cut_namespace title_in template_text begins_only ends_only loop_text depth_text absent_text
    utf8_valid_len is_utf8 chars encode link_to page_stretches expanded_page kind_of_signs
    annotated group_data call_part param_by trimmed_data label_at meaning rows blocks children para line_trees
    context_parts chunks segments loose_segments tiles shapes closes tile_at link_or_url link_at ext_link_at bare_url_at scheme_len
    tag_tile tag_at switch_at with_styles style_tree_of toggles_of toggle_at opens_tag closes_tag
begins_there = refl

at_its_path : IsOneOf (0 ∷ []) (taken_at a_word source (a_line ∷ []) [] told_by_lines).taken.paths
at_its_path = (taken_at a_word source (a_line ∷ []) [] told_by_lines).there 0 [] is_block (inl begins_there)
