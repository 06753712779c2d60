-- Worked cases: paragraphs directly behind a call, which gives nothing, or a heading and a line break: their lines tell them, and neither is excepted for
-- the call.
use Rattle.std.proofs.Common.{arith, ◌≡◌, inr, ℕ, None, Some, List, [], ◌∷◌, ◌++◌, refl, sym, subst}
use Rattle.std.specs.Prelude.{codes, if◌then◌else◌}
use Rattle.std.specs.Str.{bytes_eq, is_utf8, chars}
use Rattle.std.specs.Str.Lossy.{utf8_valid_len}
use lib.Utf8.{encode}
use Rattle.wt_span.specs.declared.form.ItemForm.TheVariants as form
use Rattle.wt_span.specs.Comments.{comment_len, comment_line_len}
use Rattle.wt_span.specs.Entities.{entity_at, named_entity, decimal_entity, hex_entity, entity_names}
use Rattle.wt_span.specs.Origins.{OuterCall}
use Rattle.wt_span.specs.Items.{Item, char, whole}
use Rattle.wt_span.specs.Tags.{raw_len, opening_tag, tag_after, closing_tag, with_inside, is_extension, include_at}
use Rattle.wt_span.specs.Lexemes.{sign_word, form_at, closed, words}
use Rattle.wt_span.specs.Braces.{rewritten, reduced, parts_of}
use Rattle.wt_lines.specs.Kinds.{kind_of_signs}
use Rattle.wt_lines.specs.Lines.{full_lines}
use Rattle.wt_names.specs.Good.{is_forbidden, is_allowed, has_signature, is_step, begins_with_step, holds_step, ends_with_step, is_good, read_text}
use Rattle.wt_names.specs.Namespace.{name_of, image, is_called, namespace_named, prefix_of, full_name_of}
use Rattle.wt_names.specs.Reading.{whole_in, cut_namespace, title_in}
use Rattle.wt_names.specs.Written.{link_to}
use Rattle.wt_annotated.specs.Seams.{text_from}
use Rattle.wt_blocks.specs.Headings.{level, opening, inside, closing}
use Rattle.wt_expand.specs.Texts.{trimmed, trimmed_items, name_text}
use Rattle.wt_expand.specs.Targets.{title_in_target, title_of_target, is_function, called}
use Rattle.wt_expand.specs.Templates.{begins_only, ends_only, template_text}
use Rattle.wt_expand.specs.Expansion.{text_members, most_templates, absent_text, loop_text, depth_text}
use Rattle.wt_expand.specs.PageCalls.{page_stretches, expanded_page}
use Rattle.wt_expand.specs.Work.{Pages}
use Rattle.wt_text_edit_laws.specs.LonePages.{page_chars}
use Rattle.wt_text_edit_laws.specs.SignParts.{IsLedTo}
use Rattle.wt_text_edit_laws.specs.TextBlocks.{a_paragraph}
use Rattle.wt_called_edit_laws.specs.CallingTold.{IsBesideOwn}
use Rattle.wt_called_edit_laws.specs.AllTold.{IsBesideNoCall}
use Rattle.wt_called_edit_laws.specs.PlacedLines.{all_lines}
use Rattle.wt_called_edit_laws.specs.ToldLines.{Told, a_paragraph_of, lined, AreTold}

abbrev page : List ℕ
page = codes "{{t}}x"

-- `Template:T` gives this
abbrev template : List ℕ → Pages
template bs full = if bytes_eq full (codes "Template:T") then Some bs else None

-- what is on the page before each
led : IsLedTo (codes "{{t}}") a_paragraph (codes "x")
led = inr (record { some = omega arith; sign = refl; unopened = refl }, refl)

-- ---- a call that gives nothing

abbrev mark : Item
mark = whole form.EmptyCall (Some 0) (codes "{{t}}")

abbrev behind_nothing : Told
behind_nothing = a_paragraph_of [] [] (mark ∷ []) (page_chars (codes "x")) []

nothing_items : (expanded_page (template []) page).items ≡ mark ∷ page_chars (codes "x")
unfolding words closed form_at comment_len comment_line_len raw_len opening_tag tag_after closing_tag with_inside is_extension
    include_at entity_at named_entity decimal_entity hex_entity entity_names sign_word reduced rewritten parts_of text_members trimmed
    trimmed_items name_text called most_templates is_function title_of_target title_in_target read_text is_allowed is_forbidden
    is_good has_signature is_step begins_with_step holds_step ends_with_step name_of image is_called namespace_named prefix_of
    full_name_of whole_in cut_namespace title_in template_text begins_only ends_only loop_text depth_text absent_text
    utf8_valid_len is_utf8 chars encode link_to page_stretches expanded_page
nothing_items = refl

nothing_lines : full_lines (mark ∷ page_chars (codes "x")) ≡ all_lines (lined behind_nothing ∷ []) []
nothing_lines = refl

nothing_told : AreTold (behind_nothing ∷ []) []
unfolding kind_of_signs level opening inside closing
nothing_told = (record { sign = tt; unclosed = tt; are_marks = refl; some = omega arith; in_cells = tt; apart = tt; own = ((refl, tt), refl) }, tt)

nothing_before : text_from (expanded_page (template []) page).outer None (mark ∷ []) ≡ codes "{{t}}"
unfolding words closed form_at comment_len comment_line_len raw_len opening_tag tag_after closing_tag with_inside is_extension
    include_at entity_at named_entity decimal_entity hex_entity entity_names sign_word reduced rewritten parts_of text_members trimmed
    trimmed_items name_text called most_templates is_function title_of_target title_in_target read_text is_allowed is_forbidden
    is_good has_signature is_step begins_with_step holds_step ends_with_step name_of image is_called namespace_named prefix_of
    full_name_of whole_in cut_namespace title_in template_text begins_only ends_only loop_text depth_text absent_text
    utf8_valid_len is_utf8 chars encode link_to page_stretches expanded_page
nothing_before = refl

nothing_unexcepted : IsBesideNoCall (expanded_page (template []) page) [] behind_nothing
nothing_unexcepted = record { led = subst (λ (bs : List ℕ). IsLedTo bs a_paragraph (codes "x")) (sym nothing_before) led; ending = tt }

-- so it isn't excepted as a block that may hold calls
led_text : (calls : List OuterCall) → IsLedTo (codes "{{t}}") a_paragraph (text_from calls None (page_chars (codes "x")))
led_text calls = inr (record { some = omega arith; sign = refl; unopened = refl }, refl)

nothing_beside : IsBesideOwn (expanded_page (template []) page) [] behind_nothing
nothing_beside =
    let calls : List OuterCall = (expanded_page (template []) page).outer in
    record {
      begun = inr (record {
        first = refl;
        led = subst (λ (bs : List ℕ). IsLedTo bs a_paragraph (text_from calls None (page_chars (codes "x")))) (sym nothing_before) (led_text calls);
      });
      breaks = ((λ e. absurd (cc)), tt);
    }

-- ---- a call that gives a heading and a line break

abbrev given : List Item
given = char (Some 0) 61 ∷ char (Some 0) 104 ∷ char (Some 0) 61 ∷ char (Some 0) 10 ∷ []

abbrev behind_lines : Told
behind_lines = a_paragraph_of (given ∷ []) [] [] (page_chars (codes "x")) []

lines_items : (expanded_page (template (codes "=h=\n")) page).items ≡ given ++ page_chars (codes "x")
unfolding words closed form_at comment_len comment_line_len raw_len opening_tag tag_after closing_tag with_inside is_extension
    include_at entity_at named_entity decimal_entity hex_entity entity_names sign_word reduced rewritten parts_of text_members trimmed
    trimmed_items name_text called most_templates is_function title_of_target title_in_target read_text is_allowed is_forbidden
    is_good has_signature is_step begins_with_step holds_step ends_with_step name_of image is_called namespace_named prefix_of
    full_name_of whole_in cut_namespace title_in template_text begins_only ends_only loop_text depth_text absent_text
    utf8_valid_len is_utf8 chars encode link_to page_stretches expanded_page
lines_items = refl

lines_lines : full_lines (given ++ page_chars (codes "x")) ≡ all_lines (lined behind_lines ∷ []) []
lines_lines = refl

lines_told : AreTold (behind_lines ∷ []) []
unfolding kind_of_signs level opening inside closing
lines_told = (record { sign = tt; unclosed = tt; are_marks = refl; some = omega arith; in_cells = tt; apart = refl; own = ((refl, tt), refl) }, tt)

lines_before : text_from (expanded_page (template (codes "=h=\n")) page).outer None given ≡ codes "{{t}}"
unfolding words closed form_at comment_len comment_line_len raw_len opening_tag tag_after closing_tag with_inside is_extension
    include_at entity_at named_entity decimal_entity hex_entity entity_names sign_word reduced rewritten parts_of text_members trimmed
    trimmed_items name_text called most_templates is_function title_of_target title_in_target read_text is_allowed is_forbidden
    is_good has_signature is_step begins_with_step holds_step ends_with_step name_of image is_called namespace_named prefix_of
    full_name_of whole_in cut_namespace title_in template_text begins_only ends_only loop_text depth_text absent_text
    utf8_valid_len is_utf8 chars encode link_to page_stretches expanded_page
lines_before = refl

lines_unexcepted : IsBesideNoCall (expanded_page (template (codes "=h=\n")) page) given behind_lines
lines_unexcepted = record { led = subst (λ (bs : List ℕ). IsLedTo bs a_paragraph (codes "x")) (sym lines_before) led; ending = tt }
