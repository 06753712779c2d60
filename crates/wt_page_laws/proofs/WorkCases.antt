-- Worked cases of what refuses an expansion, and of how deep it goes.
use Rattle.std.proofs.Common.{◌≡◌, ℕ, suc, zero, true, Some, None, List, [], ◌∷◌, ◌++◌, length, drop, refl}
use Rattle.std.specs.Prelude.{codes, if◌then◌else◌, nat_lt}
use Rattle.std.specs.Str.{bytes_eq, is_utf8, chars}
use Rattle.std.specs.Str.Lossy.{utf8_valid_len}
use lib.Utf8.{encode}
use Rattle.wt_span.specs.Comments.{comment_len, comment_line_len}
use Rattle.wt_span.specs.Entities.{entity_at, named_entity, decimal_entity, hex_entity, entity_names}
use Rattle.wt_span.specs.Tags.{raw_len, opening_tag, tag_after, closing_tag, with_inside, is_extension, include_at}
use Rattle.wt_span.specs.Lexemes.{sign_word, form_at, closed, words}
use Rattle.wt_span.specs.Braces.{rewritten, reduced, calls, nesting}
use Rattle.wt_braces.specs.Found.{too_deep}
use Rattle.wt_names.specs.Good.{is_forbidden, is_allowed, has_signature, is_step, begins_with_step, holds_step, ends_with_step, is_good, read_text}
use Rattle.wt_names.specs.Namespace.{name_of, image, is_called, namespace_named, prefix_of, full_name_of}
use Rattle.wt_names.specs.Reading.{whole_in, cut_namespace, title_in}
use Rattle.wt_utf8.specs.Places.{not_utf8_place}
use Rattle.wt_expand.specs.PageCalls.{page_stretches, expanded_page}
use Rattle.wt_expand.specs.Texts.{trimmed, trimmed_items, name_text, shown_text}
use Rattle.wt_expand.specs.Targets.{title_in_target, title_of_target, is_function, called}
use Rattle.wt_expand.specs.Templates.{begins_only, ends_only, template_text}
use Rattle.wt_expand.specs.Work.{Pages, entered, begun, fetched, ended, too_large, too_long, not_utf8, braces_too_deep, first_refusal, deep_place, template_refusal, most_bytes, most_cost}
use Rattle.wt_expand.specs.Expansion.{text_members, most_templates, absent_text, loop_text, depth_text, page_reading, page_work, text_given}

abbrev none_there : Pages
none_there full = None

abbrev one_page : List ℕ → List ℕ → Pages
one_page name bytes full = if bytes_eq full name then Some bytes else None

abbrev gives : Pages → List ℕ → List ℕ
gives pages page = shown_text (text_given (page_reading pages) page).items

-- ---- the cost: 8,388,608 and one more

at_the_limit : first_refusal none_there [] (entered None ∷ begun ∷ ended 8388607 ∷ []) ≡ None
unfolding first_refusal most_cost words closed reduced rewritten deep_place too_deep calls nesting
at_the_limit = refl

one_byte_more : first_refusal none_there [] (entered None ∷ begun ∷ ended 8388608 ∷ []) ≡ Some too_large
unfolding first_refusal most_cost words closed reduced rewritten deep_place too_deep calls nesting
one_byte_more = refl

one_call_more : first_refusal none_there [] (entered None ∷ begun ∷ ended 8388607 ∷ fetched (codes "A") ∷ begun ∷ []) ≡ Some too_large
unfolding first_refusal most_cost words closed reduced rewritten deep_place too_deep calls nesting
one_call_more = refl

-- ---- a template: too long before not UTF-8 before too deep

too_long_first : (bytes : List ℕ) → nat_lt most_bytes (length bytes) ≡ true → template_refusal (codes "T") bytes ≡ Some (too_long (codes "T"))
unfolding template_refusal
too_long_first bytes h = rw h refl

-- so many times the same bytes
abbrev times : ℕ → List ℕ → List ℕ
times zero bs = []
times (suc n) bs = bs ++ times n bs

-- so many calls stand one in another
abbrev nested : ℕ → List ℕ
nested n = times n (codes "{{a") ++ times n (codes "}}")

bad_byte_first : template_refusal (codes "T") (nested 101 ++ 255 ∷ []) ≡ Some (not_utf8 (codes "T") 505)
unfolding template_refusal most_bytes not_utf8_place utf8_valid_len is_utf8 chars encode
bad_byte_first = refl

-- the hundred-and-first call is one too many, and a hundred are none
calls_too_deep : template_refusal (codes "T") (nested 101) ≡ Some (braces_too_deep (Some (codes "T")) 300)
unfolding words closed form_at comment_len comment_line_len raw_len opening_tag tag_after closing_tag with_inside is_extension
    include_at entity_at named_entity decimal_entity hex_entity entity_names sign_word reduced rewritten template_text begins_only
    ends_only template_refusal most_bytes not_utf8_place utf8_valid_len is_utf8 chars encode deep_place too_deep calls nesting
calls_too_deep = refl

calls_deep_enough : template_refusal (codes "T") (nested 100) ≡ None
unfolding words closed form_at comment_len comment_line_len raw_len opening_tag tag_after closing_tag with_inside is_extension
    include_at entity_at named_entity decimal_entity hex_entity entity_names sign_word reduced rewritten template_text begins_only
    ends_only template_refusal most_bytes not_utf8_place utf8_valid_len is_utf8 chars encode deep_place too_deep calls nesting
calls_deep_enough = refl

-- ---- forty templates one inside another, and one more

-- `Template:A` calls `Template:AA`, and so on up to so many `A`, which shows `x`
abbrev chain : ℕ → Pages
chain n full = if bytes_eq full (codes "Template:" ++ times n (codes "A")) then Some (codes "x")
    else Some (codes "{{" ++ (drop 9 full ++ codes "A}}"))

forty : gives (chain 40) (codes "{{A}}") ≡ codes "x"
unfolding words closed form_at comment_len comment_line_len raw_len opening_tag tag_after closing_tag with_inside is_extension
    include_at entity_at named_entity decimal_entity hex_entity entity_names sign_word reduced rewritten text_members trimmed
    trimmed_items name_text called most_templates is_function title_of_target title_in_target read_text is_allowed is_forbidden
    is_good has_signature is_step begins_with_step holds_step ends_with_step name_of image is_called namespace_named prefix_of
    full_name_of whole_in cut_namespace title_in template_text begins_only ends_only loop_text depth_text absent_text
forty = refl

one_more : gives (chain 41) (codes "{{A}}") ≡ codes "Template depth: " ++ times 41 (codes "A")
unfolding words closed form_at comment_len comment_line_len raw_len opening_tag tag_after closing_tag with_inside is_extension
    include_at entity_at named_entity decimal_entity hex_entity entity_names sign_word reduced rewritten text_members trimmed
    trimmed_items name_text called most_templates is_function title_of_target title_in_target read_text is_allowed is_forbidden
    is_good has_signature is_step begins_with_step holds_step ends_with_step name_of image is_called namespace_named prefix_of
    full_name_of whole_in cut_namespace title_in template_text begins_only ends_only loop_text depth_text absent_text
one_more = refl

-- ---- a line break before `{|`, unless a line begins there; none before `{` alone

table_inside_line : gives (one_page (codes "Template:T") (codes "{|")) (codes "a{{T}}") ≡ codes "a\n{|"
unfolding words closed form_at comment_len comment_line_len raw_len opening_tag tag_after closing_tag with_inside is_extension
    include_at entity_at named_entity decimal_entity hex_entity entity_names sign_word reduced rewritten text_members trimmed
    trimmed_items name_text called most_templates is_function title_of_target title_in_target read_text is_allowed is_forbidden
    is_good has_signature is_step begins_with_step holds_step ends_with_step name_of image is_called namespace_named prefix_of
    full_name_of whole_in cut_namespace title_in template_text begins_only ends_only loop_text depth_text absent_text
table_inside_line = refl

table_at_start : gives (one_page (codes "Template:T") (codes "{|")) (codes "{{T}}a\n{{T}}") ≡ codes "{|a\n{|"
unfolding words closed form_at comment_len comment_line_len raw_len opening_tag tag_after closing_tag with_inside is_extension
    include_at entity_at named_entity decimal_entity hex_entity entity_names sign_word reduced rewritten text_members trimmed
    trimmed_items name_text called most_templates is_function title_of_target title_in_target read_text is_allowed is_forbidden
    is_good has_signature is_step begins_with_step holds_step ends_with_step name_of image is_called namespace_named prefix_of
    full_name_of whole_in cut_namespace title_in template_text begins_only ends_only loop_text depth_text absent_text
table_at_start = refl

brace_alone : gives (one_page (codes "Template:T") (codes "{a")) (codes "a{{T}}") ≡ codes "a{a"
unfolding words closed form_at comment_len comment_line_len raw_len opening_tag tag_after closing_tag with_inside is_extension
    include_at entity_at named_entity decimal_entity hex_entity entity_names sign_word reduced rewritten text_members trimmed
    trimmed_items name_text called most_templates is_function title_of_target title_in_target read_text is_allowed is_forbidden
    is_good has_signature is_step begins_with_step holds_step ends_with_step name_of image is_called namespace_named prefix_of
    full_name_of whole_in cut_namespace title_in template_text begins_only ends_only loop_text depth_text absent_text
brace_alone = refl

-- ---- a call that is text, in a call that is text: neither begins nor ends, and what stands in the inner one is expanded

text_in_text : gives none_there (codes "{{<{{>{{{x|y}}}}}}}") ≡ codes "{{<{{>y}}}}"
unfolding words closed form_at comment_len comment_line_len raw_len opening_tag tag_after closing_tag with_inside is_extension
    include_at entity_at named_entity decimal_entity hex_entity entity_names sign_word reduced rewritten text_members trimmed
    trimmed_items name_text called most_templates is_function title_of_target title_in_target read_text is_allowed is_forbidden
    is_good has_signature is_step begins_with_step holds_step ends_with_step name_of image is_called namespace_named prefix_of
    full_name_of whole_in cut_namespace title_in template_text begins_only ends_only loop_text depth_text absent_text
text_in_text = refl

work_in_text : page_work none_there (codes "{{<{{>{{{x|y}}}}}}}") ≡ entered None ∷ begun ∷ ended 1 ∷ []
unfolding words closed form_at comment_len comment_line_len raw_len opening_tag tag_after closing_tag with_inside is_extension
    include_at entity_at named_entity decimal_entity hex_entity entity_names sign_word reduced rewritten text_members trimmed
    trimmed_items name_text called most_templates is_function title_of_target title_in_target read_text is_allowed is_forbidden
    is_good has_signature is_step begins_with_step holds_step ends_with_step name_of image is_called namespace_named prefix_of
    full_name_of whole_in cut_namespace title_in template_text begins_only ends_only loop_text depth_text absent_text page_work
work_in_text = refl

-- both are told by their places, the outer one first
text_calls : (expanded_page none_there (codes "{{<{{>{{{x|y}}}}}}}")).text_calls ≡ (0, 19) ∷ (3, 17) ∷ []
unfolding words closed form_at comment_len comment_line_len raw_len opening_tag tag_after closing_tag with_inside is_extension
    include_at entity_at named_entity decimal_entity hex_entity entity_names sign_word reduced rewritten text_members trimmed
    trimmed_items name_text called most_templates is_function title_of_target title_in_target read_text is_allowed is_forbidden
    is_good has_signature is_step begins_with_step holds_step ends_with_step name_of image is_called namespace_named prefix_of
    full_name_of whole_in cut_namespace title_in template_text begins_only ends_only loop_text depth_text absent_text expanded_page page_stretches
text_calls = refl
