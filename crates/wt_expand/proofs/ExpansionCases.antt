-- Worked cases of expansion, each computed.
use Rattle.std.proofs.Common.{◌≡◌, ℕ, true, false, Some, None, List, [], ◌∷◌, ◌++◌, map, refl}
use Rattle.std.specs.Prelude.{codes, if◌then◌else◌}
use Rattle.std.specs.Fmt.{digits}
use Rattle.std.specs.Str.{bytes_eq}
use Rattle.wt_span.specs.declared.form.ItemForm.TheVariants as form
use Rattle.wt_span.specs.Comments.{comment_len, comment_line_len}
use Rattle.wt_span.specs.Entities.{entity_at, named_entity, decimal_entity, hex_entity, entity_names}
use Rattle.wt_span.specs.Tags.{raw_len, opening_tag, tag_after, closing_tag, with_inside, is_extension, include_at}
use Rattle.wt_span.specs.Lexemes.{sign_word, form_at, closed, words}
use Rattle.wt_span.specs.Braces.{rewritten, reduced, parts_of}
use Rattle.wt_span.specs.Items.{char, whole}
use Rattle.wt_names.specs.Good.{is_forbidden, is_allowed, has_signature, is_step, begins_with_step, holds_step, ends_with_step, is_good, read_text}
use Rattle.wt_names.specs.Namespace.{name_of, image, is_called, namespace_named, prefix_of, full_name_of}
use Rattle.wt_names.specs.Reading.{whole_in, cut_namespace, title_in}
use Rattle.wt_names.specs.Written.{link_text, link_to, stays_in_link}
use Rattle.wt_expand.specs.PageCalls.{page_stretches, expanded_page}
use Rattle.wt_expand.specs.Texts.{trimmed, trimmed_items, name_text, shown_text}
use Rattle.wt_expand.specs.Targets.{title_in_target, title_of_target, is_function, called}
use Rattle.wt_expand.specs.Templates.{begins_only, ends_only, template_text}
use Rattle.wt_expand.specs.Work.{Pages, entered, begun, fetched, ended, names_asked}
use Rattle.wt_expand.specs.Expansion.{text_members, most_templates, chars, absent_text, loop_text, depth_text, page_reading, page_work, text_given}

-- ---- the text of a template

-- the insides are joined, also one that isn't closed; a tag that is spelled otherwise isn't one
insides_joined : template_text (codes "a<onlyinclude>b</onlyinclude>c<onlyinclude>d") ≡ codes "bd"
unfolding template_text begins_only ends_only
insides_joined = refl

never_closed : template_text (codes "</onlyinclude>a<onlyinclude>b") ≡ codes "</onlyinclude>a<onlyinclude>b"
unfolding template_text begins_only ends_only
never_closed = refl

-- ---- texts

ends_trimmed : trimmed (codes " a b\n") ≡ codes "a b"
unfolding trimmed
ends_trimmed = refl

-- a mark at an end keeps what lies inside of it
mark_stays : trimmed_items (char None 32 ∷ whole form.Comment None (codes "<!---->") ∷ char None 32 ∷ char None 97 ∷ [])
    ≡ whole form.Comment None (codes "<!---->") ∷ char None 32 ∷ char None 97 ∷ []
unfolding trimmed_items
mark_stays = refl

function_sign : is_function (codes "{{ \n#if:x}}") ≡ true
unfolding is_function
function_sign = refl

-- ---- pages

-- what a page gives, as a text
abbrev gives : Pages → List ℕ → List ℕ
gives pages page = shown_text (text_given (page_reading pages) page).items

abbrev none_there : Pages
none_there full = None

abbrev one_page : List ℕ → List ℕ → Pages
one_page name bytes full = if bytes_eq full name then Some bytes else None

-- an argument of the page has no value: its default, or its own spelling
default_given : gives none_there (codes "x{{{a|b=c}}}{{{ d}}}") ≡ codes "xb=c{{{ d}}}"
unfolding words closed form_at comment_len comment_line_len raw_len opening_tag tag_after closing_tag with_inside is_extension
    include_at entity_at named_entity decimal_entity hex_entity entity_names sign_word reduced rewritten text_members trimmed
    name_text called most_templates
default_given = refl

-- a target that names no title: the call is text, and what stands in it is as it was expanded
bad_name : gives none_there (codes "{{{{{x}}}}}") ≡ codes "{{{{{x}}}}}"
unfolding words closed form_at comment_len comment_line_len raw_len opening_tag tag_after closing_tag with_inside is_extension
    include_at entity_at named_entity decimal_entity hex_entity entity_names sign_word reduced rewritten text_members trimmed
    trimmed_items name_text called most_templates is_function title_of_target title_in_target read_text is_allowed is_forbidden
    is_good has_signature is_step begins_with_step holds_step ends_with_step name_of image is_called namespace_named prefix_of
    full_name_of whole_in cut_namespace title_in template_text begins_only ends_only loop_text depth_text absent_text
bad_name = refl

-- a page that is absent gives the characters of the link to it
absent : gives none_there (codes "a{{m}}") ≡ codes "a[[:Template:M]]"
unfolding words closed form_at comment_len comment_line_len raw_len opening_tag tag_after closing_tag with_inside is_extension
    include_at entity_at named_entity decimal_entity hex_entity entity_names sign_word reduced rewritten text_members trimmed
    trimmed_items name_text called most_templates is_function title_of_target title_in_target read_text is_allowed is_forbidden
    is_good has_signature is_step begins_with_step holds_step ends_with_step name_of image is_called namespace_named prefix_of
    full_name_of whole_in cut_namespace title_in template_text begins_only ends_only loop_text depth_text absent_text
absent = refl

-- a template within itself
loop : gives (one_page (codes "Template:A") (codes "{{a}}")) (codes "{{A}}") ≡ codes "Template loop: A"
unfolding words closed form_at comment_len comment_line_len raw_len opening_tag tag_after closing_tag with_inside is_extension
    include_at entity_at named_entity decimal_entity hex_entity entity_names sign_word reduced rewritten text_members trimmed
    trimmed_items name_text called most_templates is_function title_of_target title_in_target read_text is_allowed is_forbidden
    is_good has_signature is_step begins_with_step holds_step ends_with_step name_of image is_called namespace_named prefix_of
    full_name_of whole_in cut_namespace title_in template_text begins_only ends_only loop_text depth_text absent_text
loop = refl

-- a value by its name, trimmed
with_values : gives (one_page (codes "Template:T") (codes "[{{{1}}}]")) (codes "x {{T|1= y }} z") ≡ codes "x [y] z"
unfolding words closed form_at comment_len comment_line_len raw_len opening_tag tag_after closing_tag with_inside is_extension
    include_at entity_at named_entity decimal_entity hex_entity entity_names sign_word reduced rewritten text_members trimmed
    trimmed_items name_text called most_templates is_function title_of_target title_in_target read_text is_allowed is_forbidden
    is_good has_signature is_step begins_with_step holds_step ends_with_step name_of image is_called namespace_named prefix_of
    full_name_of whole_in cut_namespace title_in template_text begins_only ends_only loop_text depth_text absent_text
with_values = refl

-- a later value of a name wins, and one without a name stays as it is
later_wins : gives (one_page (codes "Template:T") (codes "[{{{1}}}]")) (codes "{{T|1=x| y}}") ≡ codes "[ y]"
unfolding words closed form_at comment_len comment_line_len raw_len opening_tag tag_after closing_tag with_inside is_extension
    include_at entity_at named_entity decimal_entity hex_entity entity_names sign_word reduced rewritten text_members trimmed
    trimmed_items name_text called most_templates is_function title_of_target title_in_target read_text is_allowed is_forbidden
    is_good has_signature is_step begins_with_step holds_step ends_with_step name_of image is_called namespace_named prefix_of
    full_name_of whole_in cut_namespace title_in template_text begins_only ends_only loop_text depth_text absent_text digits
later_wins = refl

-- a line break before what opens a block, unless the call stands at a line start
line_start : gives (one_page (codes "Template:T") (codes "*b")) (codes "{{T}}a{{T}}") ≡ codes "*ba\n*b"
unfolding words closed form_at comment_len comment_line_len raw_len opening_tag tag_after closing_tag with_inside is_extension
    include_at entity_at named_entity decimal_entity hex_entity entity_names sign_word reduced rewritten text_members trimmed
    trimmed_items name_text called most_templates is_function title_of_target title_in_target read_text is_allowed is_forbidden
    is_good has_signature is_step begins_with_step holds_step ends_with_step name_of image is_called namespace_named prefix_of
    full_name_of whole_in cut_namespace title_in template_text begins_only ends_only loop_text depth_text absent_text
line_start = refl

-- each page is asked for once
asked : names_asked (page_work (one_page (codes "Template:T") (codes "b")) (codes "{{T}}{{t}}{{:u}}")) ≡ codes "Template:T" ∷ codes "U" ∷ []
unfolding words closed form_at comment_len comment_line_len raw_len opening_tag tag_after closing_tag with_inside is_extension
    include_at entity_at named_entity decimal_entity hex_entity entity_names sign_word reduced rewritten text_members trimmed
    trimmed_items name_text called most_templates is_function title_of_target title_in_target read_text is_allowed is_forbidden
    is_good has_signature is_step begins_with_step holds_step ends_with_step name_of image is_called namespace_named prefix_of
    full_name_of whole_in cut_namespace title_in template_text begins_only ends_only loop_text depth_text absent_text names_asked page_work
asked = refl

-- a page is entered, a call begins when its target was expanded, its page is fetched and entered, an argument in it begins and ends, the call ends
work_of : page_work (one_page (codes "Template:T") (codes "{{{1|b}}}")) (codes "{{T}}") ≡ entered None ∷ begun
    ∷ fetched (codes "Template:T") ∷ entered (Some (codes "Template:T")) ∷ begun ∷ ended 1 ∷ ended 1 ∷ []
unfolding words closed form_at comment_len comment_line_len raw_len opening_tag tag_after closing_tag with_inside is_extension
    include_at entity_at named_entity decimal_entity hex_entity entity_names sign_word reduced rewritten text_members trimmed
    trimmed_items name_text called most_templates is_function title_of_target title_in_target read_text is_allowed is_forbidden
    is_good has_signature is_step begins_with_step holds_step ends_with_step name_of image is_called namespace_named prefix_of
    full_name_of whole_in cut_namespace title_in template_text begins_only ends_only loop_text depth_text absent_text page_work
work_of = refl

-- an outermost call that gives nothing is a mark, and in a call that is text the calls are outermost ones
with_origins : expanded_page (one_page (codes "Template:T") (codes "")) (codes "{{T}}{{<{{{a}}}}}") ≡ record {
  items = whole form.EmptyCall (Some 0) (codes "{{T}}") ∷ (chars (codes "{{<") ++ (map (char (Some 1)) (codes "{{{a}}}") ++ chars (codes "}}")));
  outer = record { start = 0; source = codes "{{T}}"; argument = false; parts = (2, 3) ∷ []; equals = None ∷ []; href = Some (codes "./Template:T") }
      ∷ record { start = 8; source = codes "{{{a}}}"; argument = true; parts = (11, 12) ∷ []; equals = None ∷ []; href = None } ∷ [];
  text_calls = (5, 17) ∷ [];
}
unfolding words closed form_at comment_len comment_line_len raw_len opening_tag tag_after closing_tag with_inside is_extension
    include_at entity_at named_entity decimal_entity hex_entity entity_names sign_word reduced rewritten text_members trimmed
    trimmed_items name_text called most_templates is_function title_of_target title_in_target read_text is_allowed is_forbidden
    is_good has_signature is_step begins_with_step holds_step ends_with_step name_of image is_called namespace_named prefix_of
    full_name_of whole_in cut_namespace title_in template_text begins_only ends_only loop_text depth_text absent_text
    expanded_page page_stretches parts_of link_to link_text stays_in_link
with_origins = refl
