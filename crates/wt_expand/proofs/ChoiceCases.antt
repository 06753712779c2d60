-- Worked cases of functions by text, each computed.
use Rattle.std.proofs.Common.{◌≡◌, ℕ, true, false, Some, None, List, [], ◌∷◌, ◌++◌, map, refl}
use Rattle.std.specs.Prelude.{codes, if◌then◌else◌}
use Rattle.std.specs.Fmt.{digits}
use Rattle.std.specs.Str.{bytes_eq}
use Rattle.wt_span.specs.declared.form.ItemForm.TheVariants as form
use Rattle.wt_span.specs.Comments.{comment_len, comment_line_len}
use Rattle.wt_span.specs.Entities.{entity_at, named_entity, decimal_entity, hex_entity, entity_names}
use Rattle.wt_span.specs.Tags.{raw_len, opening_tag, tag_after, closing_tag, with_inside, is_extension, include_at}
use Rattle.wt_span.specs.Lexemes.{sign_word, form_at, closed, words}
use Rattle.wt_span.specs.Braces.{rewritten, reduced, parts_of}
use Rattle.wt_span.specs.Items.{char, whole}
use Rattle.wt_names.specs.Good.{is_forbidden, is_allowed, has_signature, is_step, begins_with_step, holds_step, ends_with_step, is_good, read_text}
use Rattle.wt_names.specs.Namespace.{name_of, image, is_called, namespace_named, prefix_of, full_name_of}
use Rattle.wt_names.specs.Reading.{whole_in, cut_namespace, title_in}
use Rattle.wt_names.specs.Written.{link_text, link_to, stays_in_link}
use Rattle.wt_span.specs.Functions.{function_of, begins_with}
use Rattle.wt_functions.specs.Choice.{told_count, chosen, equal_part, last_whole}
use Rattle.wt_expand.specs.PageCalls.{page_stretches, expanded_page}
use Rattle.wt_expand.specs.Texts.{trimmed, trimmed_items, name_text, shown_text}
use Rattle.wt_expand.specs.Targets.{title_in_target, title_of_target, is_function, called}
use Rattle.wt_expand.specs.Templates.{begins_only, ends_only, template_text}
use Rattle.wt_expand.specs.Work.{Pages, entered, begun, fetched, ended, names_asked}
use Rattle.wt_expand.specs.Expansion.{text_members, most_templates, chars, absent_text, loop_text, depth_text, page_reading, page_work, text_given}

-- what a page gives, as a text
abbrev gives : Pages → List ℕ → List ℕ
gives pages page = shown_text (text_given (page_reading pages) page).items

abbrev none_there : Pages
none_there full = None

abbrev one_page : List ℕ → List ℕ → Pages
one_page name bytes full = if bytes_eq full name then Some bytes else None

if_text : gives none_there (codes "{{#if: x | a | b}}") ≡ codes "a"
unfolding words closed form_at comment_len comment_line_len raw_len opening_tag tag_after closing_tag with_inside is_extension
    include_at entity_at named_entity decimal_entity hex_entity entity_names sign_word reduced rewritten text_members trimmed
    trimmed_items name_text called most_templates is_function title_of_target title_in_target read_text is_allowed is_forbidden
    is_good has_signature is_step begins_with_step holds_step ends_with_step name_of image is_called namespace_named prefix_of
    full_name_of whole_in cut_namespace title_in template_text begins_only ends_only loop_text depth_text absent_text
    function_of begins_with told_count chosen equal_part last_whole digits
if_text = refl

if_empty : gives none_there (codes "{{#if:|a|b}}") ≡ codes "b"
unfolding words closed form_at comment_len comment_line_len raw_len opening_tag tag_after closing_tag with_inside is_extension
    include_at entity_at named_entity decimal_entity hex_entity entity_names sign_word reduced rewritten text_members trimmed
    trimmed_items name_text called most_templates is_function title_of_target title_in_target read_text is_allowed is_forbidden
    is_good has_signature is_step begins_with_step holds_step ends_with_step name_of image is_called namespace_named prefix_of
    full_name_of whole_in cut_namespace title_in template_text begins_only ends_only loop_text depth_text absent_text
    function_of begins_with told_count chosen equal_part last_whole digits
if_empty = refl

-- what is given is trimmed
ifeq_same : gives none_there (codes "{{#ifeq: a | a | y }}") ≡ codes "y"
unfolding words closed form_at comment_len comment_line_len raw_len opening_tag tag_after closing_tag with_inside is_extension
    include_at entity_at named_entity decimal_entity hex_entity entity_names sign_word reduced rewritten text_members trimmed
    trimmed_items name_text called most_templates is_function title_of_target title_in_target read_text is_allowed is_forbidden
    is_good has_signature is_step begins_with_step holds_step ends_with_step name_of image is_called namespace_named prefix_of
    full_name_of whole_in cut_namespace title_in template_text begins_only ends_only loop_text depth_text absent_text
    function_of begins_with told_count chosen equal_part last_whole digits
ifeq_same = refl

ifeq_other : gives none_there (codes "{{#ifeq:a|b|y}}") ≡ codes ""
unfolding words closed form_at comment_len comment_line_len raw_len opening_tag tag_after closing_tag with_inside is_extension
    include_at entity_at named_entity decimal_entity hex_entity entity_names sign_word reduced rewritten text_members trimmed
    trimmed_items name_text called most_templates is_function title_of_target title_in_target read_text is_allowed is_forbidden
    is_good has_signature is_step begins_with_step holds_step ends_with_step name_of image is_called namespace_named prefix_of
    full_name_of whole_in cut_namespace title_in template_text begins_only ends_only loop_text depth_text absent_text
    function_of begins_with told_count chosen equal_part last_whole digits
ifeq_other = refl

switch_falls : gives none_there (codes "{{#switch: b | a = 1 | b | c = 2 | 3 }}") ≡ codes "2"
unfolding words closed form_at comment_len comment_line_len raw_len opening_tag tag_after closing_tag with_inside is_extension
    include_at entity_at named_entity decimal_entity hex_entity entity_names sign_word reduced rewritten text_members trimmed
    trimmed_items name_text called most_templates is_function title_of_target title_in_target read_text is_allowed is_forbidden
    is_good has_signature is_step begins_with_step holds_step ends_with_step name_of image is_called namespace_named prefix_of
    full_name_of whole_in cut_namespace title_in template_text begins_only ends_only loop_text depth_text absent_text
    function_of begins_with told_count chosen equal_part last_whole digits
switch_falls = refl

switch_last : gives none_there (codes "{{#switch: z | a = 1 | 3 }}") ≡ codes "3"
unfolding words closed form_at comment_len comment_line_len raw_len opening_tag tag_after closing_tag with_inside is_extension
    include_at entity_at named_entity decimal_entity hex_entity entity_names sign_word reduced rewritten text_members trimmed
    trimmed_items name_text called most_templates is_function title_of_target title_in_target read_text is_allowed is_forbidden
    is_good has_signature is_step begins_with_step holds_step ends_with_step name_of image is_called namespace_named prefix_of
    full_name_of whole_in cut_namespace title_in template_text begins_only ends_only loop_text depth_text absent_text
    function_of begins_with told_count chosen equal_part last_whole digits
switch_last = refl

switch_default : gives none_there (codes "{{#switch: z | a = 1 | #default = 4 }}") ≡ codes "4"
unfolding words closed form_at comment_len comment_line_len raw_len opening_tag tag_after closing_tag with_inside is_extension
    include_at entity_at named_entity decimal_entity hex_entity entity_names sign_word reduced rewritten text_members trimmed
    trimmed_items name_text called most_templates is_function title_of_target title_in_target read_text is_allowed is_forbidden
    is_good has_signature is_step begins_with_step holds_step ends_with_step name_of image is_called namespace_named prefix_of
    full_name_of whole_in cut_namespace title_in template_text begins_only ends_only loop_text depth_text absent_text
    function_of begins_with told_count chosen equal_part last_whole digits
switch_default = refl

-- another function is kept as it stands
another_function : gives none_there (codes "{{#invoke:x}}") ≡ codes "{{#invoke:x}}"
unfolding words closed form_at comment_len comment_line_len raw_len opening_tag tag_after closing_tag with_inside is_extension
    include_at entity_at named_entity decimal_entity hex_entity entity_names sign_word reduced rewritten text_members trimmed
    trimmed_items name_text called most_templates is_function title_of_target title_in_target read_text is_allowed is_forbidden
    is_good has_signature is_step begins_with_step holds_step ends_with_step name_of image is_called namespace_named prefix_of
    full_name_of whole_in cut_namespace title_in template_text begins_only ends_only loop_text depth_text absent_text
    function_of begins_with told_count chosen equal_part last_whole digits
another_function = refl

in_any_case : gives none_there (codes "a{{ #IF:{{{x|}}}|b|c}}") ≡ codes "ac"
unfolding words closed form_at comment_len comment_line_len raw_len opening_tag tag_after closing_tag with_inside is_extension
    include_at entity_at named_entity decimal_entity hex_entity entity_names sign_word reduced rewritten text_members trimmed
    trimmed_items name_text called most_templates is_function title_of_target title_in_target read_text is_allowed is_forbidden
    is_good has_signature is_step begins_with_step holds_step ends_with_step name_of image is_called namespace_named prefix_of
    full_name_of whole_in cut_namespace title_in template_text begins_only ends_only loop_text depth_text absent_text
    function_of begins_with told_count chosen equal_part last_whole digits
in_any_case = refl

-- a line break before what only counts at the start of a line
behind_a_break : gives none_there (codes "a{{#if:x|* b}}") ≡ codes "a\n* b"
unfolding words closed form_at comment_len comment_line_len raw_len opening_tag tag_after closing_tag with_inside is_extension
    include_at entity_at named_entity decimal_entity hex_entity entity_names sign_word reduced rewritten text_members trimmed
    trimmed_items name_text called most_templates is_function title_of_target title_in_target read_text is_allowed is_forbidden
    is_good has_signature is_step begins_with_step holds_step ends_with_step name_of image is_called namespace_named prefix_of
    full_name_of whole_in cut_namespace title_in template_text begins_only ends_only loop_text depth_text absent_text
    function_of begins_with told_count chosen equal_part last_whole digits
behind_a_break = refl

-- a part of another function than `#switch` is told and given whole
within : gives none_there (codes "{{#if:{{#if:|x}}|a|{{#ifeq:1|{{{1|1}}}|b=c}}}}") ≡ codes "b=c"
unfolding words closed form_at comment_len comment_line_len raw_len opening_tag tag_after closing_tag with_inside is_extension
    include_at entity_at named_entity decimal_entity hex_entity entity_names sign_word reduced rewritten text_members trimmed
    trimmed_items name_text called most_templates is_function title_of_target title_in_target read_text is_allowed is_forbidden
    is_good has_signature is_step begins_with_step holds_step ends_with_step name_of image is_called namespace_named prefix_of
    full_name_of whole_in cut_namespace title_in template_text begins_only ends_only loop_text depth_text absent_text
    function_of begins_with told_count chosen equal_part last_whole digits
within = refl

-- a template's values are handed to its functions
values_told : gives (one_page (codes "Template:T") (codes "{{#if:{{{1|}}}|y|n}}")) (codes "{{T|x}}{{T}}") ≡ codes "yn"
unfolding words closed form_at comment_len comment_line_len raw_len opening_tag tag_after closing_tag with_inside is_extension
    include_at entity_at named_entity decimal_entity hex_entity entity_names sign_word reduced rewritten text_members trimmed
    trimmed_items name_text called most_templates is_function title_of_target title_in_target read_text is_allowed is_forbidden
    is_good has_signature is_step begins_with_step holds_step ends_with_step name_of image is_called namespace_named prefix_of
    full_name_of whole_in cut_namespace title_in template_text begins_only ends_only loop_text depth_text absent_text
    function_of begins_with told_count chosen equal_part last_whole digits
values_told = refl

-- a part that isn't told or given fetches nothing
not_fetched : names_asked (page_work none_there (codes "{{#if: x | {{a}} | {{b}} }}")) ≡ codes "Template:A" ∷ []
unfolding words closed form_at comment_len comment_line_len raw_len opening_tag tag_after closing_tag with_inside is_extension
    include_at entity_at named_entity decimal_entity hex_entity entity_names sign_word reduced rewritten text_members trimmed
    trimmed_items name_text called most_templates is_function title_of_target title_in_target read_text is_allowed is_forbidden
    is_good has_signature is_step begins_with_step holds_step ends_with_step name_of image is_called namespace_named prefix_of
    full_name_of whole_in cut_namespace title_in template_text begins_only ends_only loop_text depth_text absent_text
    function_of begins_with told_count chosen equal_part last_whole names_asked page_work
not_fetched = refl

-- a part that is told and then given is expanded and counted twice, each time behind the beginning of the function
told_and_given : page_work none_there (codes "{{#switch:z|{{{1|a}}}}}") ≡ entered None ∷ begun ∷ begun ∷ ended 1 ∷ begun ∷ ended 1 ∷ ended 1 ∷ []
unfolding words closed form_at comment_len comment_line_len raw_len opening_tag tag_after closing_tag with_inside is_extension
    include_at entity_at named_entity decimal_entity hex_entity entity_names sign_word reduced rewritten text_members trimmed
    trimmed_items name_text called most_templates is_function title_of_target title_in_target read_text is_allowed is_forbidden
    is_good has_signature is_step begins_with_step holds_step ends_with_step name_of image is_called namespace_named prefix_of
    full_name_of whole_in cut_namespace title_in template_text begins_only ends_only loop_text depth_text absent_text
    function_of begins_with told_count chosen equal_part last_whole page_work
told_and_given = refl

-- an outermost function is a call without a link
with_origin : expanded_page none_there (codes "x{{#if: x | a | b}}") ≡ record {
  items = char None 120 ∷ char (Some 0) 97 ∷ [];
  outer = record { start = 1; source = codes "{{#if: x | a | b}}"; argument = false; parts = (3, 10) ∷ (11, 14) ∷ (15, 17) ∷ []; equals = None ∷ None ∷ None ∷ []; href = None } ∷ [];
  text_calls = [];
}
unfolding words closed form_at comment_len comment_line_len raw_len opening_tag tag_after closing_tag with_inside is_extension
    include_at entity_at named_entity decimal_entity hex_entity entity_names sign_word reduced rewritten text_members trimmed
    trimmed_items name_text called most_templates is_function title_of_target title_in_target read_text is_allowed is_forbidden
    is_good has_signature is_step begins_with_step holds_step ends_with_step name_of image is_called namespace_named prefix_of
    full_name_of whole_in cut_namespace title_in template_text begins_only ends_only loop_text depth_text absent_text
    function_of begins_with told_count chosen equal_part last_whole digits
    expanded_page page_stretches parts_of link_to link_text stays_in_link
with_origin = refl
