-- Worked cases: `x{{t}}y` and `zw{{t}}v` where `Template:T` is a word; each may be written in the place of the other.
use Rattle.std.proofs.Common.{inl, inr, ℕ, false, List, [], ◌∷◌, refl}
use Rattle.std.specs.Prelude.{codes}
use Rattle.std.specs.Str.{is_utf8, chars, IsUtf8}
use Rattle.std.specs.Str.Lossy.{utf8_valid_len}
use lib.Utf8.{encode}
use Rattle.wt_span.specs.declared.form.Mode.TheVariants.{Page}
use Rattle.wt_span.specs.Comments.{comment_len, comment_line_len}
use Rattle.wt_span.specs.Entities.{entity_at, named_entity, decimal_entity, hex_entity, entity_names}
use Rattle.wt_span.specs.Tags.{raw_len, opening_tag, tag_after, closing_tag, with_inside, is_extension, include_at}
use Rattle.wt_span.specs.Lexemes.{words, closed, sign_word, form_at}
use Rattle.wt_span.specs.Braces.{rewritten, reduced, parts_of, calls, nesting}
use Rattle.wt_braces.specs.Found.{too_deep}
use Rattle.wt_names.specs.Good.{is_forbidden, is_allowed, has_signature, is_step, begins_with_step, holds_step, ends_with_step, is_good, read_text}
use Rattle.wt_names.specs.Namespace.{name_of, image, is_called, namespace_named, prefix_of, full_name_of}
use Rattle.wt_names.specs.Reading.{whole_in, cut_namespace, title_in}
use Rattle.wt_names.specs.Written.{link_to}
use Rattle.wt_guards.specs.Content.{ContentSign, letter, thing}
use Rattle.wt_guards.specs.Guards.{spelled, is_guarded, is_between_guard, is_start_guard, is_end_guard, is_blank_guard}
use Rattle.wt_guards.specs.Table.{hazard, line_start_hazard}
use Rattle.wt_part_laws.specs.Lexer.{lexer}
use Rattle.wt_part_laws.specs.Scans.{Settles}
use Rattle.wt_expand.specs.PageCalls.{page_stretches, expanded_page}
use Rattle.wt_expand.specs.Work.{deep_place}
use Rattle.wt_expand.specs.Texts.{trimmed, trimmed_items, name_text}
use Rattle.wt_expand.specs.Targets.{title_in_target, title_of_target, is_function, called}
use Rattle.wt_expand.specs.Templates.{begins_only, ends_only, template_text}
use Rattle.wt_expand.specs.Expansion.{text_members, most_templates, absent_text, loop_text, depth_text}
use Rattle.wt_part_laws.specs.Expanded.{GivesAnywhere}
use Rattle.wt_text_edit_laws.specs.ReadContents.{BeginsUnclosed}
use Rattle.wt_text_edit_laws.specs.TextBlocks.{a_paragraph}
use Rattle.wt_text_edit_laws.proofs.Between.ClosingTags.{unclosed_untagged}
use Rattle.wt_beside_laws.specs.Called.{IsCalledIn}
use Rattle.wt_beside_laws.specs.FlatBlocks.{IsSealed}
use Rattle.wt_beside_laws.proofs.Groups.Cases.{a_word, call, in_paragraph, typed, gives_b, in_class}
use Rattle.wt_called_edit_laws.specs.CallingBlocks.{IsNewContentIn}
use Rattle.wt_called_edit_laws.specs.WholeContents.{IsShut}
use Rattle.wt_called_edit_laws.specs.Written.{IsReadThing, IsOwnPart}
use Rattle.wt_called_edit_laws.specs.WrittenAnew.{IsWrittenBeside}
use Rattle.wt_called_edit_laws.proofs.Written.NewContents.{written_anew}

-- ---- the call

pub call_settles : (rest : List ℕ) → BeginsUnclosed rest → Settles (lexer Page) rest false 0 (codes "{{t}}")
unfolding words closed form_at comment_len comment_line_len raw_len opening_tag tag_after closing_tag with_inside include_at entity_at named_entity
    decimal_entity hex_entity entity_names sign_word
call_settles [] u = (refl, (refl, (refl, refl)))
call_settles (b ∷ r) u = (refl, (refl, (rw (u) refl, refl)))

pub call_read : IsReadThing call
call_read = record { source = inr (record { others = codes "{t}}"; is = refl; settles = call_settles }, refl); begins = refl; ends = refl }

pub call_anywhere : GivesAnywhere a_word (codes "{{t}}")
unfolding words closed form_at comment_len comment_line_len raw_len opening_tag tag_after closing_tag with_inside is_extension
    include_at entity_at named_entity decimal_entity hex_entity entity_names sign_word reduced rewritten parts_of text_members trimmed
    trimmed_items name_text called most_templates is_function title_of_target title_in_target read_text is_allowed is_forbidden
    is_good has_signature is_step begins_with_step holds_step ends_with_step name_of image is_called namespace_named prefix_of
    full_name_of whole_in cut_namespace title_in template_text begins_only ends_only loop_text depth_text absent_text
    utf8_valid_len is_utf8 chars encode link_to page_stretches expanded_page
call_anywhere = record { outputs = refl; alike = λ at. record { items = λ k. refl; outers = refl; texts = refl } }

pub call_part : IsOwnPart a_word (codes "{{t}}")
unfolding words closed form_at comment_len comment_line_len raw_len opening_tag tag_after closing_tag with_inside is_extension
    include_at entity_at named_entity decimal_entity hex_entity entity_names sign_word reduced rewritten parts_of text_members trimmed
    trimmed_items name_text called most_templates is_function title_of_target title_in_target read_text is_allowed is_forbidden
    is_good has_signature is_step begins_with_step holds_step ends_with_step name_of image is_called namespace_named prefix_of
    full_name_of whole_in cut_namespace title_in template_text begins_only ends_only loop_text depth_text absent_text
    utf8_valid_len is_utf8 chars encode link_to page_stretches expanded_page deep_place too_deep calls nesting
call_part = record { left = refl; anywhere = call_anywhere; texts = refl; undeep = refl }

pub call_sealed : IsSealed (codes "{{t}}")
call_sealed = record { closes = λ name us vs o v. unclosed_untagged name (codes "{{t}}") vs refl v }

pub call_shut : IsShut call
call_shut = (refl, λ e. cc)

pub call_utf8 : IsUtf8 (codes "{{t}}")
unfolding encode
call_utf8 = (codes "{{t}}", (refl, refl))

-- ---- a paragraph

pub was : IsWrittenBeside a_word in_paragraph typed
was = record { called = in_class; read = (call_read, tt); parts = (call_part, tt); sealed = (call_sealed, tt); shut = (call_shut, tt); utf8 = (call_utf8, tt) }

-- ---- and another one

abbrev pub other : List ContentSign
other = letter 122 ∷ letter 119 ∷ thing call ∷ letter 118 ∷ []

pub other_class : IsCalledIn a_word in_paragraph other
unfolding is_guarded is_between_guard is_start_guard is_end_guard is_blank_guard hazard line_start_hazard
other_class = record {
  of_block = refl;
  characters = (refl, (refl, (refl, tt)));
  given = (gives_b, tt);
  meet = λ i. ((λ e. tt), tt);
  some = tt;
}

pub now : IsWrittenBeside a_word in_paragraph other
now = record { called = other_class; read = (call_read, tt); parts = (call_part, tt); sealed = (call_sealed, tt); shut = (call_shut, tt); utf8 = (call_utf8, tt) }

pub anew : IsNewContentIn a_word a_paragraph (spelled in_paragraph typed) (spelled in_paragraph other)
anew = written_anew a_word in_paragraph in_paragraph typed other was now (inl (refl, tt))
