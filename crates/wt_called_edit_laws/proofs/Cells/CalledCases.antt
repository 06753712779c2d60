-- A worked case of a page with a call, by computing: the call opens a table, in a cell of which a paragraph stands.
use Rattle.std.proofs.Common.{◌≡◌, Some, None, List, [], ◌∷◌, ◌++◌, map, inl, refl}
use Rattle.std.specs.Prelude.{codes, if◌then◌else◌}
use Rattle.std.specs.Str.{bytes_eq, is_utf8, chars, IsUtf8}
use Rattle.std.specs.Str.Lossy.{utf8_valid_len}
use lib.Utf8.{encode}
use Rattle.wt_span.specs.Comments.{comment_len, comment_line_len}
use Rattle.wt_span.specs.Entities.{entity_at, named_entity, decimal_entity, hex_entity, entity_names}
use Rattle.wt_span.specs.Items.{char}
use Rattle.wt_span.specs.Tags.{raw_len, opening_tag, tag_after, closing_tag, with_inside, is_extension, include_at}
use Rattle.wt_span.specs.Lexemes.{sign_word, form_at, closed, words}
use Rattle.wt_span.specs.Braces.{rewritten, reduced, parts_of}
use Rattle.wt_lines.specs.Kinds.{kind_of_signs}
use Rattle.wt_names.specs.Good.{is_forbidden, is_allowed, has_signature, is_step, begins_with_step, holds_step, ends_with_step, is_good, read_text}
use Rattle.wt_names.specs.Namespace.{name_of, image, is_called, namespace_named, prefix_of, full_name_of}
use Rattle.wt_names.specs.Reading.{whole_in, cut_namespace, title_in}
use Rattle.wt_names.specs.Written.{link_to}
use Rattle.wt_expand.specs.PageItems.{page_items}
use Rattle.wt_expand.specs.Texts.{trimmed, trimmed_items, name_text}
use Rattle.wt_expand.specs.Targets.{title_in_target, title_of_target, is_function, called}
use Rattle.wt_expand.specs.Templates.{begins_only, ends_only, template_text}
use Rattle.wt_expand.specs.Work.{Pages}
use Rattle.wt_expand.specs.Expansion.{text_members, most_templates, absent_text, loop_text, depth_text}
use Rattle.wt_expand.specs.PageCalls.{page_stretches, expanded_page}
use Rattle.wt_text_edit_laws.specs.BlockSpots.{BlockSpot, spots_source}
use Rattle.wt_text_edit_laws.specs.TextBlocks.{a_paragraph}
use Rattle.wt_text_edit_laws.proofs.Blocks.Contents.{block_content, typed_firmly}
use Rattle.wt_called_edit_laws.specs.Parts.{AreCalled}
use Rattle.wt_part_laws.specs.Expanded.{part_items}
use Rattle.wt_text_edit_laws.proofs.Blocks.BlockReading.{content_read}
use Rattle.wt_called_edit_laws.proofs.Parts.NoCallsCalled.{calm_anywhere}
use Rattle.wt_called_edit_laws.proofs.Cells.ContentItems.{content_items}
use Rattle.wt_called_edit_laws.specs.CalledBlocks.{spots_among, items_behind, CallNothing, AreAmongCalls}
use Rattle.wt_called_edit_laws.specs.ItemSpots.{ArePlaced}
use Rattle.wt_called_edit_laws.proofs.Cells.AnyCases.{a_spot, typed_a}
use Rattle.wt_called_edit_laws.proofs.Cells.Cells.{typed_stays_text}

-- `Template:T` opens a table, and no other page is there
abbrev opens_table : Pages
opens_table full = if bytes_eq full (codes "Template:T") then Some (codes "{|") else None

abbrev blocks_here : List BlockSpot
blocks_here = a_spot (codes "{{t}}\n|\n") (codes "a") ∷ []

was : spots_source blocks_here (codes "\n|}") ≡ codes "{{t}}\n|\na\n|}"
was = refl

-- ---- its items

first_items : part_items opens_table 0 (codes "{{t}}\n|\n") ≡ map (char (Some 0)) (codes "{|") ++ map (char None) (codes "\n|\n")
unfolding words closed form_at comment_len comment_line_len raw_len opening_tag tag_after closing_tag with_inside is_extension
    include_at entity_at named_entity decimal_entity hex_entity entity_names sign_word reduced rewritten parts_of text_members trimmed
    trimmed_items name_text called most_templates is_function title_of_target title_in_target read_text is_allowed is_forbidden
    is_good has_signature is_step begins_with_step holds_step ends_with_step name_of image is_called namespace_named prefix_of
    full_name_of whole_in cut_namespace title_in template_text begins_only ends_only loop_text depth_text absent_text
    utf8_valid_len is_utf8 chars encode link_to page_stretches
first_items = refl

-- ---- so the paragraph is in a cell

utf8_before : IsUtf8 (codes "{{t}}\n|\n")
unfolding encode
utf8_before = (codes "{{t}}\n|\n", (refl, refl))

utf8_behind : IsUtf8 (codes "\n|}")
unfolding encode
utf8_behind = (codes "\n|}", (refl, refl))

calm_here : CallNothing blocks_here
unfolding page_items words closed form_at comment_len comment_line_len raw_len opening_tag tag_after closing_tag with_inside include_at entity_at named_entity decimal_entity
    hex_entity entity_names sign_word reduced rewritten
calm_here = (tt, tt)

called_here : AreCalled opens_table blocks_here (codes "\n|}")
unfolding page_items words closed form_at comment_len comment_line_len raw_len opening_tag tag_after closing_tag with_inside include_at entity_at named_entity decimal_entity
    hex_entity entity_names sign_word reduced rewritten
called_here = (
  record { led = inl refl; before_utf8 = utf8_before; block = content_read a_paragraph (codes "a") (block_content a_paragraph (codes "a") (inl typed_a)) },
  (record { uncommented = refl }, utf8_behind, refl),
  record {
    end_before = ((refl, (refl, (refl, (refl, (refl, (refl, refl)))))), inl (typed_firmly a_paragraph (codes "a") typed_a), tt);
    anywhere = calm_anywhere opens_table blocks_here (block_content a_paragraph (codes "a") (inl typed_a), tt) calm_here;
    apart = tt;
  },
)

placed_here : ArePlaced (spots_among opens_table 0 blocks_here) (items_behind opens_table 0 blocks_here (codes "\n|}"))
unfolding words closed form_at comment_len comment_line_len raw_len opening_tag tag_after closing_tag with_inside is_extension
    include_at entity_at named_entity decimal_entity hex_entity entity_names sign_word reduced rewritten parts_of text_members trimmed
    trimmed_items name_text called most_templates is_function title_of_target title_in_target read_text is_allowed is_forbidden
    is_good has_signature is_step begins_with_step holds_step ends_with_step name_of image is_called namespace_named prefix_of
    full_name_of whole_in cut_namespace title_in template_text begins_only ends_only loop_text depth_text absent_text
    utf8_valid_len is_utf8 chars encode link_to page_stretches expanded_page kind_of_signs
placed_here = (
  (content_items a_paragraph (codes "a") (block_content a_paragraph (codes "a") (inl typed_a)), record { whole = inl refl; in_cells = (refl, tt); apart = refl }, inl (typed_stays_text 1 (codes "a") typed_a)),
  (refl, refl),
)

-- So texts may be typed in it.
in_class : AreAmongCalls opens_table blocks_here (codes "\n|}")
in_class = record { called = called_here; contents = (block_content a_paragraph (codes "a") (inl typed_a), tt); calm = calm_here; placed = placed_here }
