-- What calls of pages that are there give.
use Rattle.std.proofs.Common.{arith, ◌≡◌, ◌≢◌, ℕ, suc, ◌==◌, Bool, true, false, Option, Some, None, List, [], ◌∷◌, ◌++◌, length, take, drop, refl, sym, ap, ◌∙◌, append-nil}
use Rattle.std.specs.Prelude.{codes, if◌then◌else◌}
use Rattle.std.specs.Option.{option_or}
use Rattle.std.specs.Fmt.{digits}
use Rattle.std.proofs.lemmas.Bool.Decides.{nat_tests}
use Rattle.wt_span.specs.declared.form.Mode.{Mode}
use Rattle.wt_span.specs.declared.form.Mode.TheVariants as mode
use Rattle.wt_span.specs.declared.form.LexKind.TheVariants.{Chars}
use Rattle.wt_span.specs.Items.{Item}
use Rattle.wt_span.specs.Bytes.{is_break, begins}
use Rattle.wt_span.specs.Comments.{comment_len, comment_line_len}
use Rattle.wt_span.specs.Entities.{entity_at, named_entity, decimal_entity, hex_entity, entity_names}
use Rattle.wt_span.specs.Tags.{raw_len, opening_tag, tag_after, closing_tag, with_inside, is_extension, include_at}
use Rattle.wt_span.specs.Lexemes.{Word, Cut, cut_with, cuts, closed, form_at, sign_word, words}
use Rattle.wt_span.specs.Braces.{members, reduced, rewritten}
use Rattle.wt_lex.specs.Words.{is_form_byte}
use Rattle.wt_lex.proofs.Begins.{begins_get}
use Rattle.wt_lex.proofs.AllForms.{no_form}
use Rattle.wt_names.specs.declared.title.Title.{Title}
use Rattle.wt_names.specs.Namespace.{full_name_of}
use Rattle.wt_expand.specs.Templates.{begins_only, ends_only, has_end, has_only, insides, template_text}
use Rattle.wt_expand.specs.Texts.{name_text, trimmed, trimmed_items}
use Rattle.wt_expand.specs.Targets.{called}
use Rattle.wt_expand.specs.Work.{Pages}
use Rattle.wt_expand.specs.Expansion.{Output, PartOutput, Frame, Reading, joined, chars, if_value, fetched_output, later_parts, most_templates, outputs_of, page_output, page_reading, template_output, text_given, text_members, value_of, values_from, with_break}
use Rattle.wt_page_laws.specs.PlainTemplates.{IsPlainLine, first_argument, unnamed}

-- ---- words of a plain line

no_word : (m : Mode) (b : ℕ) (bs : List ℕ) → is_form_byte b ≡ false → form_at m false (b ∷ bs) ≡ None
no_word m b bs e = no_form m false (b ∷ bs) (rw e refl)

one_run : (m : Mode) (bs : List ℕ) → IsPlainLine bs → cuts m false 0 bs ≡ (length bs, [])
one_run m [] h = refl
one_run m (b ∷ bs) h =
    ap (λ (o : Option Word). cut_with o (λ n. cuts m (is_break b) n bs)) (no_word m b bs h.0)
    ∙ ap (λ (a : Bool). cut_with None (λ n. cuts m a n bs)) h.1 ∙ ap (λ (c : Cut). cut_with None (λ n. c)) (one_run m bs h.2)

not_zero : (n : ℕ) → (suc n == 0) ≡ false
not_zero n = grind (arith, nat_tests)

one_word : (m : Mode) (b : ℕ) (bs : List ℕ) → IsPlainLine (b ∷ bs) → words m (b ∷ bs) ≡ (Chars, suc (length bs)) ∷ []
unfolding words closed
one_word m b bs h =
    ap (λ (c : Cut). closed c.0 c.1) (one_run m (b ∷ bs) h)
    ∙ ap (λ (z : Bool). if z then [] else (Chars, suc (length bs)) ∷ []) (not_zero (length bs))

-- ---- the text of a template

not_true : (t : Bool) → (t ≡ true → ⊥) → t ≡ false
not_true true h = absurd (h refl)
not_true false h = refl

not_less : (b : ℕ) → is_form_byte b ≡ false → b ≢ 60
not_less b e i = let no : true ≡ false = sym (ap is_form_byte i) ∙ e in cc

no_tag : (b : ℕ) (bs : List ℕ) → is_form_byte b ≡ false → begins_only (b ∷ bs) ≡ false
unfolding begins_only
no_tag b bs e =
    not_true (begins (codes "<onlyinclude>") (b ∷ bs))
    (λ is. not_less b e (begins_get (codes "<onlyinclude>") (b ∷ bs) is 0 (omega arith)))

no_tags : (bs : List ℕ) → IsPlainLine bs → has_only bs ≡ false
no_tags [] h = refl
no_tags (b ∷ bs) h = ap (λ (z : Bool). if z then has_end (drop 13 (b ∷ bs)) else has_only bs) (no_tag b bs h.0) ∙ no_tags bs h.2

whole_text : (bs : List ℕ) → IsPlainLine bs → template_text bs ≡ bs
unfolding template_text
whole_text bs h = ap (λ (z : Bool). if z then insides 0 false bs else bs) (no_tags bs h)

-- ---- what it gives

abbrev of_template : Frame → (Title → Frame → Output) → Reading
of_template v f = record { mode = mode.Template; frame = v; template = f }

all_taken : (bs : List ℕ) → take (length bs) bs ≡ bs
all_taken [] = refl
all_taken (b ∷ bs) = ap (λ (xs : List ℕ). b ∷ xs) (all_taken bs)

abbrev given_by_words : Reading → List ℕ → List Word → List Item
given_by_words r bs ws = (joined (outputs_of r true bs (members (reduced ws)))).items

run_given : (v : Frame) (f : Title → Frame → Output) (b : ℕ) (bs : List ℕ)
    → given_by_words (of_template v f) (b ∷ bs) ((Chars, suc (length bs)) ∷ []) ≡ chars (b ∷ bs)
unfolding reduced
run_given v f b bs = append-nil (chars (b ∷ take (length bs) bs)) ∙ ap (λ (xs : List ℕ). chars (b ∷ xs)) (all_taken bs)

line_given : (v : Frame) (f : Title → Frame → Output) (bs : List ℕ) → IsPlainLine bs → (text_given (of_template v f) bs).items ≡ chars bs
unfolding text_members words closed reduced
line_given v f [] h = refl
line_given v f (b ∷ bs) h = ap (given_by_words (of_template v f) (b ∷ bs)) (one_word mode.Template b bs h) ∙ run_given v f b bs

argument_given : (v : Frame) (f : Title → Frame → Output) (x : List Item) → value_of (codes "1") v ≡ Some x
    → (text_given (of_template v f) first_argument).items ≡ x
unfolding first_argument words closed form_at comment_len comment_line_len raw_len opening_tag tag_after closing_tag with_inside is_extension
    include_at entity_at named_entity decimal_entity hex_entity entity_names sign_word reduced rewritten text_members trimmed
    trimmed_items name_text called
argument_given v f x e =
    ap (λ (o : Option (List Item)). (if_value o (record { items = chars (codes "{{{1}}}"); work = [] })).items ++ []) e ∙ append-nil x

-- ---- a page that is called

page_found : (pages : Pages) (left : ℕ) (t : Title) (v : Frame) (bs : List ℕ) → pages (full_name_of t) ≡ Some bs
    → (template_output pages (suc left) [] t v).items
    ≡ (text_given (of_template v (template_output pages left (full_name_of t ∷ []))) (template_text bs)).items
page_found pages left t v bs e =
    let full : List ℕ = full_name_of t in
    let read : List ℕ → Output = λ text. text_given (of_template v (template_output pages left (full ∷ []))) text in
    ap (λ (o : Option (List ℕ)). (fetched_output full read o).items) e

one_more : most_templates ≡ suc 39
unfolding most_templates
one_more = refl

call_given : (pages : Pages) (at_start : Bool) (t : Title) (parts : List PartOutput) (bs : List ℕ) → pages (full_name_of t) ≡ Some bs
    → (page_output (page_reading pages) at_start t parts).items
    ≡ with_break at_start
    (text_given (of_template (values_from 1 (later_parts parts)) (template_output pages 39 (full_name_of t ∷ []))) (template_text bs)).items
call_given pages at_start t parts bs e =
    let v : Frame = values_from 1 (later_parts parts) in
    ap (λ (n : ℕ). with_break at_start (template_output pages n [] t v).items) one_more
    ∙ ap (with_break at_start) (page_found pages 39 t v bs e)

pub plain_page : (pages : Pages) (at_start : Bool) (t : Title) (parts : List PartOutput) (line : List ℕ) → pages (full_name_of t) ≡ Some line
    → IsPlainLine line → (page_output (page_reading pages) at_start t parts).items ≡ with_break at_start (chars line)
plain_page pages at_start t parts line e h =
    let v : Frame = values_from 1 (later_parts parts) in
    let f : Title → Frame → Output = template_output pages 39 (full_name_of t ∷ []) in
    call_given pages at_start t parts line e
    ∙ ap (λ (bs : List ℕ). with_break at_start (text_given (of_template v f) bs).items) (whole_text line h)
    ∙ ap (with_break at_start) (line_given v f line h)

first_value : (o : Output) (parts : List PartOutput) → value_of (codes "1") (values_from 2 parts) ≡ None
    → value_of (codes "1") (values_from 1 (unnamed o ∷ parts)) ≡ Some o.items
unfolding digits
first_value o parts h = ap (λ (later : Option (List Item)). option_or later (Some o.items)) h

argument_text : template_text first_argument ≡ first_argument
unfolding template_text first_argument begins_only ends_only
argument_text = refl

pub first_page : (pages : Pages) (at_start : Bool) (t : Title) (target : PartOutput) (o : Output) (parts : List PartOutput)
    → pages (full_name_of t) ≡ Some first_argument → value_of (codes "1") (values_from 2 parts) ≡ None
    → (page_output (page_reading pages) at_start t (target ∷ unnamed o ∷ parts)).items ≡ with_break at_start o.items
first_page pages at_start t target o parts e h =
    let v : Frame = values_from 1 (unnamed o ∷ parts) in
    let f : Title → Frame → Output = template_output pages 39 (full_name_of t ∷ []) in
    call_given pages at_start t (target ∷ unnamed o ∷ parts) first_argument e
    ∙ ap (λ (bs : List ℕ). with_break at_start (text_given (of_template v f) bs).items) argument_text
    ∙ ap (with_break at_start) (argument_given v f o.items (first_value o parts h))
