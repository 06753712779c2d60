-- Worked cases of where an expansion stops, each computed.
use Rattle.std.proofs.Common.{◌≡◌, ℕ, true, false, Some, None, List, [], ◌∷◌, ◌++◌, map, refl}
use Rattle.std.specs.Prelude.{codes, if◌then◌else◌}
use Rattle.std.specs.Str.{bytes_eq, is_utf8, chars}
use Rattle.std.specs.Str.Lossy.{utf8_valid_len}
use lib.Utf8.{encode}
use Rattle.wt_span.specs.Comments.{comment_len, comment_line_len}
use Rattle.wt_span.specs.Entities.{entity_at, named_entity, decimal_entity, hex_entity, entity_names}
use Rattle.wt_span.specs.Tags.{raw_len, opening_tag, tag_after, closing_tag, with_inside, is_extension, include_at}
use Rattle.wt_span.specs.Lexemes.{sign_word, form_at, closed, words}
use Rattle.wt_span.specs.Braces.{rewritten, reduced, calls, nesting}
use Rattle.wt_braces.specs.Found.{too_deep}
use Rattle.wt_names.specs.Good.{is_forbidden, is_allowed, has_signature, is_step, begins_with_step, holds_step, ends_with_step, is_good, read_text}
use Rattle.wt_names.specs.Namespace.{name_of, image, is_called, namespace_named, prefix_of, full_name_of}
use Rattle.wt_names.specs.Reading.{whole_in, cut_namespace, title_in}
use Rattle.wt_utf8.specs.Places.{not_utf8_place}
use Rattle.wt_expand.specs.Texts.{trimmed, trimmed_items, name_text}
use Rattle.wt_expand.specs.Targets.{title_in_target, title_of_target, is_function, called}
use Rattle.wt_expand.specs.Templates.{begins_only, ends_only, template_text}
use Rattle.wt_expand.specs.Work.{Pages, Entry, entered, begun, fetched, ended, fetches, deep_place, template_refusal, most_bytes, most_cost, names_asked}
use Rattle.wt_expand.specs.Expansion.{text_members, most_templates, absent_text, loop_text, depth_text, page_work}
use Rattle.wt_expand.specs.Fronts.{Front, NextFetches, known_after, allowed_from, allowed_work, names_told}

abbrev a : List ℕ
a = codes "Template:A"

abbrev b : List ℕ
b = codes "Template:B"

-- `Template:A` is the byte FF, and no other page is there
abbrev bad_a : Pages
bad_a full = if bytes_eq full (codes "Template:A") then Some (255 ∷ []) else None

abbrev none_there : Pages
none_there full = None

-- the page `M`, which calls itself
abbrev itself : Pages
itself full = if bytes_eq full (codes "M") then Some (codes "{{:M}}") else None

-- what is done of `{{A}}{{B}}` where `Template:A` is refused: its name is told, and that of `Template:B` isn't
refused_page : allowed_work bad_a (codes "{{A}}{{B}}") (page_work bad_a (codes "{{A}}{{B}}")) ≡ entered None ∷ begun ∷ fetched a ∷ []
unfolding words closed form_at comment_len comment_line_len raw_len opening_tag tag_after closing_tag with_inside is_extension
    include_at entity_at named_entity decimal_entity hex_entity entity_names sign_word reduced rewritten text_members trimmed
    trimmed_items name_text called most_templates is_function title_of_target title_in_target read_text is_allowed is_forbidden
    is_good has_signature is_step begins_with_step holds_step ends_with_step name_of image is_called namespace_named prefix_of
    full_name_of whole_in cut_namespace title_in template_text begins_only ends_only loop_text depth_text absent_text page_work
    allowed_work deep_place too_deep calls nesting template_refusal most_bytes most_cost not_utf8_place utf8_valid_len is_utf8 chars encode
refused_page = refl

-- the page of a fetch may be absent; its name is told, and those of later fetches
absent_page : names_told none_there (codes "{{A}}{{B}}{{A}}") (page_work none_there (codes "{{A}}{{B}}{{A}}")) ≡ a ∷ b ∷ []
unfolding words closed form_at comment_len comment_line_len raw_len opening_tag tag_after closing_tag with_inside is_extension
    include_at entity_at named_entity decimal_entity hex_entity entity_names sign_word reduced rewritten text_members trimmed
    trimmed_items name_text called most_templates is_function title_of_target title_in_target read_text is_allowed is_forbidden
    is_good has_signature is_step begins_with_step holds_step ends_with_step name_of image is_called namespace_named prefix_of
    full_name_of whole_in cut_namespace title_in template_text begins_only ends_only loop_text depth_text absent_text page_work
    allowed_work names_told names_asked deep_place too_deep calls nesting template_refusal most_bytes most_cost not_utf8_place
    is_utf8 chars encode
absent_page = refl

-- a page that calls itself is fetched once, as a template
calls_itself : names_told itself (codes "{{:M}}") (page_work itself (codes "{{:M}}")) ≡ codes "M" ∷ []
unfolding words closed form_at comment_len comment_line_len raw_len opening_tag tag_after closing_tag with_inside is_extension
    include_at entity_at named_entity decimal_entity hex_entity entity_names sign_word reduced rewritten text_members trimmed
    trimmed_items name_text called most_templates is_function title_of_target title_in_target read_text is_allowed is_forbidden
    is_good has_signature is_step begins_with_step holds_step ends_with_step name_of image is_called namespace_named prefix_of
    full_name_of whole_in cut_namespace title_in template_text begins_only ends_only loop_text depth_text absent_text page_work
    allowed_work names_told names_asked deep_place too_deep calls nesting template_refusal most_bytes most_cost not_utf8_place
    is_utf8 chars encode
calls_itself = refl

-- the first fetch may fail behind the page's own beginning, and nothing is told
first_fails : Front none_there (codes "{{A}}") 0 (entered None ∷ begun ∷ fetched a ∷ ended 16 ∷ []) (entered None ∷ begun ∷ []) (fetched a ∷ ended 16 ∷ [])
unfolding words closed form_at comment_len comment_line_len raw_len opening_tag tag_after closing_tag with_inside is_extension
    include_at entity_at named_entity decimal_entity hex_entity entity_names sign_word reduced rewritten deep_place too_deep calls nesting most_cost
first_fails = record { whole = refl; allowed = refl }

-- and then it is the next entry
fails_next : NextFetches (known_after [] (fetches (entered None ∷ begun ∷ []))) (fetched a ∷ ended 16 ∷ [])
fails_next = refl

-- of two fetches that fail the first stops the work: the other one has an entry before it that isn't done
second_fails : NextFetches (known_after [] (fetches (entered None ∷ begun ∷ fetched a ∷ begun ∷ []))) (fetched a ∷ []) → ⊥
second_fails h = let z : true ≡ false = h in cc

-- what costs too much ends the work before it, and its own entry is none of it
costs_too_much : allowed_from none_there [] 8388600 (begun ∷ fetched a ∷ ended 8 ∷ fetched b ∷ []) ≡ begun ∷ fetched a ∷ []
unfolding most_cost
costs_too_much = refl

at_the_limit : allowed_from none_there [] 8388600 (ended 8 ∷ fetched b ∷ []) ≡ ended 8 ∷ fetched b ∷ []
unfolding most_cost
at_the_limit = refl
