-- Worked case: the page `{{t}} {{t}}`, where `Template:T` is a word, begins and ends with a call, and is told by the one line that it gives.
use Rattle.std.proofs.Common.{arith, inr, ◌≡◌, None, List, [], ◌∷◌, refl, sym, ap, ◌∙◌, subst, inl}
use Rattle.std.specs.Str.Lossy.{utf8_valid_len}
use Rattle.std.specs.Str.{is_utf8, chars}
use Rattle.wt_beside_laws.proofs.Groups.Cases.{a_word}
use Rattle.wt_called_edit_laws.proofs.Among.CallingLines.{calling_editable}
use Rattle.wt_called_edit_laws.proofs.Beside.BothCases.{source, given, is_read, is_text, here, unrefused_here, free_here}
use Rattle.wt_called_edit_laws.proofs.Whole.Pieced.{pieced_content, pieced_holds}
use Rattle.wt_called_edit_laws.specs.EditableBlocks.{IsEditableWithCalls}
use Rattle.wt_called_edit_laws.specs.LinedAmong.{spots_of_lines, end_of_lines}
use Rattle.wt_called_edit_laws.specs.LinedCalling.{IsCallingAt, AreCallingHere, AreApartFrom, IsLinedCalling}
use Rattle.wt_called_edit_laws.specs.PlacedLines.{LinedBlock, all_lines}
use Rattle.wt_expand.specs.Expansion.{text_members, most_templates, absent_text, loop_text, depth_text}
use Rattle.wt_expand.specs.PageCalls.{page_stretches, expanded_page}
use Rattle.wt_expand.specs.Targets.{title_in_target, title_of_target, is_function, called}
use Rattle.wt_expand.specs.Templates.{begins_only, ends_only, template_text}
use Rattle.wt_expand.specs.Texts.{trimmed, trimmed_items, name_text}
use Rattle.wt_lines.specs.Kinds.{kind_of_signs}
use Rattle.wt_lines.specs.Lines.{full_lines}
use Rattle.wt_names.specs.Good.{is_forbidden, is_allowed, has_signature, is_step, begins_with_step, holds_step, ends_with_step, is_good, read_text}
use Rattle.wt_names.specs.Namespace.{name_of, image, is_called, namespace_named, prefix_of, full_name_of}
use Rattle.wt_names.specs.Reading.{whole_in, cut_namespace, title_in}
use Rattle.wt_names.specs.Written.{link_to}
use Rattle.wt_span.specs.Braces.{rewritten, reduced, parts_of}
use Rattle.wt_span.specs.Comments.{comment_len, comment_line_len}
use Rattle.wt_span.specs.Entities.{entity_at, named_entity, decimal_entity, hex_entity, entity_names}
use Rattle.wt_span.specs.Lexemes.{sign_word, form_at, closed, words}
use Rattle.wt_span.specs.Origins.{Span}
use Rattle.wt_annotated.specs.Seams.{text_from}
use Rattle.wt_span.specs.Tags.{raw_len, opening_tag, tag_after, closing_tag, with_inside, is_extension, include_at}
use Rattle.wt_text_edit_laws.specs.TextBlocks.{a_paragraph}
use lib.Utf8.{encode}

abbrev pub a_line : LinedBlock
a_line = record { before = []; sign = []; marks = []; block = a_paragraph; text = source; first = given 0; more = [] }

items_there : (expanded_page a_word source).items ≡ given 0
unfolding words closed form_at comment_len comment_line_len raw_len opening_tag tag_after closing_tag with_inside is_extension
    include_at entity_at named_entity decimal_entity hex_entity entity_names sign_word reduced rewritten parts_of text_members trimmed
    trimmed_items name_text called most_templates is_function title_of_target title_in_target read_text is_allowed is_forbidden
    is_good has_signature is_step begins_with_step holds_step ends_with_step name_of image is_called namespace_named prefix_of
    full_name_of whole_in cut_namespace title_in template_text begins_only ends_only loop_text depth_text absent_text
    utf8_valid_len is_utf8 chars encode link_to page_stretches expanded_page
items_there = refl

-- what is on the page for its line
source_there : text_from (expanded_page a_word source).outer None (given 0) ≡ source
unfolding words closed form_at comment_len comment_line_len raw_len opening_tag tag_after closing_tag with_inside is_extension
    include_at entity_at named_entity decimal_entity hex_entity entity_names sign_word reduced rewritten parts_of text_members trimmed
    trimmed_items name_text called most_templates is_function title_of_target title_in_target read_text is_allowed is_forbidden
    is_good has_signature is_step begins_with_step holds_step ends_with_step name_of image is_called namespace_named prefix_of
    full_name_of whole_in cut_namespace title_in template_text begins_only ends_only loop_text depth_text absent_text
    utf8_valid_len is_utf8 chars encode link_to page_stretches expanded_page
source_there = refl

no_text_calls : (expanded_page a_word source).text_calls ≡ []
unfolding words closed form_at comment_len comment_line_len raw_len opening_tag tag_after closing_tag with_inside is_extension
    include_at entity_at named_entity decimal_entity hex_entity entity_names sign_word reduced rewritten parts_of text_members trimmed
    trimmed_items name_text called most_templates is_function title_of_target title_in_target read_text is_allowed is_forbidden
    is_good has_signature is_step begins_with_step holds_step ends_with_step name_of image is_called namespace_named prefix_of
    full_name_of whole_in cut_namespace title_in template_text begins_only ends_only loop_text depth_text absent_text
    utf8_valid_len is_utf8 chars encode link_to page_stretches expanded_page
no_text_calls = refl

lines_are : full_lines (given 0) ≡ all_lines (a_line ∷ []) []
lines_are = refl

stands : IsCallingAt [] a_line
unfolding kind_of_signs
stands = record { sign = tt; are_marks = refl; some = omega arith; in_cells = tt; apart = tt; own = (refl, tt) }

are_here : AreCallingHere (expanded_page a_word source).outer [] (a_line ∷ [])
are_here =
    let text = is_text 0 in (record { front = inl (record { before = refl; marks = tt; unclosed = tt }); breaks = text.own_breaks; source = source_there }, tt)

apart_here : AreApartFrom (expanded_page a_word source).outer (expanded_page a_word source).text_calls 0 [] (a_line ∷ [])
apart_here = subst (λ (ts : List Span). AreApartFrom (expanded_page a_word source).outer ts 0 [] (a_line ∷ [])) (sym no_text_calls) (tt, tt)

pub told_by_lines : IsLinedCalling a_word source (a_line ∷ []) []
told_by_lines = record {
  utf8 = is_read.utf8;
  are = ap full_lines items_there ∙ lines_are;
  lined = (stands, tt);
  here = are_here;
  contents = (pieced_content a_word source here, tt);
  editable = (inr (pieced_holds a_word source here), tt);
  apart = apart_here;
  unrefused = unrefused_here;
  free = (free_here, tt);
}

pub in_class : IsEditableWithCalls a_word (spots_of_lines a_word source (a_line ∷ [])) (end_of_lines a_word source (a_line ∷ []) [])
in_class = calling_editable a_word source (a_line ∷ []) [] told_by_lines
