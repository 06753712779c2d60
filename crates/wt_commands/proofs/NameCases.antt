-- Worked cases of the names that a command asks for, each computed.
use Rattle.std.proofs.Common.{◌≡◌, [], ◌∷◌, ◌++◌, Some, None, Ok, refl}
use Rattle.std.specs.Prelude.{codes, if◌then◌else◌}
use Rattle.std.specs.Str.{bytes_eq, is_utf8, chars}
use Rattle.std.specs.Str.Lossy.{utf8_valid_len}
use lib.Utf8.{encode}
use Rattle.wt_span.specs.Comments.{comment_len, comment_line_len}
use Rattle.wt_span.specs.Entities.{entity_at, named_entity, decimal_entity, hex_entity, entity_names}
use Rattle.wt_span.specs.Tags.{raw_len, opening_tag, tag_after, closing_tag, with_inside, is_extension, include_at}
use Rattle.wt_span.specs.Lexemes.{sign_word, form_at, closed, words}
use Rattle.wt_span.specs.Braces.{rewritten, reduced, calls, nesting}
use Rattle.wt_braces.specs.Found.{too_deep}
use Rattle.wt_names.specs.Good.{is_forbidden, is_allowed, has_signature, is_step, begins_with_step, holds_step, ends_with_step, is_good, read_text}
use Rattle.wt_names.specs.Namespace.{name_of, image, is_called, namespace_named, prefix_of, full_name_of}
use Rattle.wt_names.specs.Reading.{whole_in, cut_namespace, title_in}
use Rattle.wt_utf8.specs.Places.{not_utf8_place}
use Rattle.wt_html_grammar.specs.declared.why.HtmlWhy.TheVariants as ill_why
use Rattle.wt_expand.specs.Texts.{trimmed, trimmed_items, name_text}
use Rattle.wt_expand.specs.Targets.{title_in_target, title_of_target, is_function, called}
use Rattle.wt_expand.specs.Templates.{begins_only, ends_only, template_text}
use Rattle.wt_expand.specs.Work.{Pages, deep_place, template_refusal, most_bytes, most_cost, names_asked, first_refusal}
use Rattle.wt_expand.specs.Expansion.{text_members, most_templates, absent_text, loop_text, depth_text, page_work}
use Rattle.wt_expand.specs.Fronts.{allowed_work}
use Rattle.wt_schema.specs.Read.{ill}
use Rattle.wt_commands.specs.Answers.{refusal_of_page}
use Rattle.wt_commands.specs.Asked.{edited_work, names_of, new_work, title_work, work_behind, work_done}

-- the page `M`, which calls itself and then `Template:A`, the byte FF, and `Template:B`, which isn't there
abbrev some_pages : Pages
some_pages full =
    if bytes_eq full (codes "M") then Some (codes "{{:M}}{{A}}{{B}}") else (if bytes_eq full (codes "Template:A") then Some (255 ∷ []) else None)

-- the page's own name, that of the page as a template, and that of the template that is refused; `Template:B` isn't asked for
refused_template : names_of (codes "M") (title_work (some_pages (codes "M")) (work_done some_pages))
    ≡ codes "M" ∷ codes "M" ∷ codes "Template:A" ∷ []
unfolding words closed form_at comment_len comment_line_len raw_len opening_tag tag_after closing_tag with_inside is_extension
    include_at entity_at named_entity decimal_entity hex_entity entity_names sign_word reduced rewritten text_members trimmed
    trimmed_items name_text called most_templates is_function title_of_target title_in_target read_text is_allowed is_forbidden
    is_good has_signature is_step begins_with_step holds_step ends_with_step name_of image is_called namespace_named prefix_of
    full_name_of whole_in cut_namespace title_in template_text begins_only ends_only loop_text depth_text absent_text page_work
    allowed_work names_asked deep_place too_deep calls nesting template_refusal most_bytes most_cost not_utf8_place utf8_valid_len
    is_utf8 chars encode title_work
refused_template = refl

-- no page, one that isn't UTF-8, and HTML that is refused ask for no more than the page's own name
no_page : names_of (codes "N") (title_work (some_pages (codes "N")) (work_done some_pages)) ≡ codes "N" ∷ []
unfolding title_work names_asked
no_page = refl

no_text : names_of (codes "Template:A") (title_work (some_pages (codes "Template:A")) (work_done some_pages)) ≡ codes "Template:A" ∷ []
unfolding title_work not_utf8_place utf8_valid_len is_utf8 chars encode names_asked
no_text = refl

no_html : names_of (codes "M") (edited_work some_pages (codes "{{B}}") (ill 3 ill_why.Syntax)) ≡ codes "M" ∷ []
unfolding edited_work names_asked
no_html = refl

-- an edit by which the page calls a second template: its name comes behind those of the page, and the template that both pages
-- call isn't asked for twice
new_template : names_of (codes "N") (work_done some_pages (codes "{{B}}")
    ++ work_behind (refusal_of_page some_pages (codes "{{B}}")) (new_work some_pages (Ok (codes "{{C}}{{B}}"))))
    ≡ codes "N" ∷ codes "Template:B" ∷ codes "Template:C" ∷ []
unfolding words closed form_at comment_len comment_line_len raw_len opening_tag tag_after closing_tag with_inside is_extension
    include_at entity_at named_entity decimal_entity hex_entity entity_names sign_word reduced rewritten text_members trimmed
    trimmed_items name_text called most_templates is_function title_of_target title_in_target read_text is_allowed is_forbidden
    is_good has_signature is_step begins_with_step holds_step ends_with_step name_of image is_called namespace_named prefix_of
    full_name_of whole_in cut_namespace title_in template_text begins_only ends_only loop_text depth_text absent_text page_work
    allowed_work names_asked deep_place too_deep calls nesting template_refusal most_bytes most_cost not_utf8_place utf8_valid_len
    is_utf8 chars encode title_work first_refusal
new_template = refl
