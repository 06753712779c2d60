-- Which form begins at a byte of a spelled text.
use Rattle.std.proofs.Common.{arith, ◌≡◌, ◌≢◌, ℕ, ◌+◌, ◌<◌, Bool, true, false, List, [], ◌∷◌, ◌++◌, length, get_or, nat_lt, refl, sym, ap, ◌∙◌, Some, None}
use Rattle.std.specs.Prelude.{◌&&◌, if◌then◌else◌, slice_index, codes}
use Rattle.std.specs.Option.{option_or}
use Rattle.std.specs.Char.{is_ascii_alphabetic}
use Rattle.std.specs.Fmt.{digits}
use Rattle.std.proofs.lemmas.Bool.Decides.{nat_tests}
use Rattle.wt_span.specs.declared.form.Mode.{Mode}
use Rattle.wt_span.specs.declared.form.LexKind.TheVariants.{CommentLine, Comment, Raw, Entity, Equals}
use Rattle.wt_span.specs.Bytes.{is_blank, is_break, begins, blank_len}
use Rattle.wt_span.specs.Comments.{comment_len, comment_line_len, remarks_len, remarks_with}
use Rattle.wt_span.specs.Tags.{opening_tag, closing_tag, raw_len, include_at, tag_after, with_inside, is_extension}
use Rattle.wt_span.specs.Entities.{named_in, entity_names, named_entity, decimal_entity, hex_entity, entity_at}
use Rattle.wt_span.specs.Lexemes.{as_word, entity_word, sign_word, form_at}
use Rattle.wt_lex.specs.Words.{is_form_byte}
use Rattle.wt_lex.proofs.Begins.{begins_get}
use Rattle.wt_lex.proofs.AllForms.{no_form}
use Rattle.wt_guards.specs.Letters.{reference}
use Rattle.wt_guards.specs.Guards.{nowiki}
use Rattle.wt_guards.proofs.Escapes.{is_escapable, each_escapable}

not_true : (t : Bool) → (t ≡ true → ⊥) → t ≡ false
not_true true h = absurd (h refl)
not_true false h = refl

pub begins_not : (word bs : List ℕ) (k : ℕ) → k < length word → (get_or bs k 0 ≡ get_or word k 0 → ⊥) → begins word bs ≡ false
begins_not word bs k lt h = not_true (begins word bs) (λ e. h (begins_get word bs e k lt))

-- ---- comments

abbrev pub NoComments : List ℕ → Type 0
NoComments [] = Unit {0}
NoComments (b ∷ bs) = (comment_len (b ∷ bs) ≡ None) × NoComments bs

pub comment_other : (b : ℕ) (bs : List ℕ) → b ≢ 60 → comment_len (b ∷ bs) ≡ None
unfolding comment_len
comment_other b bs h = rw (begins_not (codes "<!--") (b ∷ bs) 0 (omega arith) h) refl

pub comment_not : (x : ℕ) (bs : List ℕ) → x ≢ 33 → comment_len (60 ∷ x ∷ bs) ≡ None
unfolding comment_len
comment_not x bs h = rw (begins_not (codes "<!--") (60 ∷ x ∷ bs) 1 (omega arith) h) refl

no_remarks : (bs : List ℕ) → NoComments bs → remarks_len 0 bs ≡ blank_len bs
no_remarks [] h = refl
no_remarks (b ∷ bs) h =
    ap (λ o. remarks_with o b (λ n. remarks_len n bs)) h.0 ∙ ap (λ (n : ℕ). if is_blank b then 1 + n else 0) (no_remarks bs h.1)

not_below : (n : ℕ) → nat_lt n n ≡ false
not_below n = grind (arith, nat_tests)

no_line : (bs : List ℕ) → NoComments bs → comment_line_len bs ≡ None
unfolding comment_line_len
no_line bs h =
    ap (λ (n : ℕ). if nat_lt (blank_len bs) n && is_break (slice_index bs n) then Some (n + 1) else None) (no_remarks bs h)
    ∙ ap (λ (t : Bool). if t && is_break (slice_index bs (blank_len bs)) then Some (blank_len bs + 1) else None) (not_below (blank_len bs))

-- without comments it makes no difference whether a line break stands before
pub without_line : (mode : Mode) (after : Bool) (bs : List ℕ) → NoComments bs → form_at mode after bs ≡ form_at mode false bs
unfolding form_at
without_line mode false bs h = refl
without_line mode true bs h =
    ap (λ o. option_or (as_word CommentLine o) (option_or (as_word Comment (comment_len bs)) (option_or (as_word Raw (raw_len bs))
    (option_or (include_at mode bs) (option_or (entity_word (entity_at bs)) (sign_word bs)))))) (no_line bs h)

-- ---- single bytes

pub other_byte : (mode : Mode) (b : ℕ) (bs : List ℕ) → is_form_byte b ≡ false → form_at mode false (b ∷ bs) ≡ None
other_byte mode b bs e = no_form mode false (b ∷ bs) (rw e refl)

pub equals_byte : (mode : Mode) (bs : List ℕ) → form_at mode false (61 ∷ bs) ≡ Some (Equals, 1)
unfolding form_at comment_len raw_len include_at opening_tag closing_tag entity_at named_entity entity_names decimal_entity hex_entity sign_word
equals_byte mode bs = refl

-- what makes a tag or a comment of a `<`
abbrev pub IsTame : ℕ → Type 0
IsTame x = (is_ascii_alphabetic x ≡ false) × (x ≢ 33) × (x ≢ 47)

opening_not : (x : ℕ) (bs : List ℕ) → is_ascii_alphabetic x ≡ false → opening_tag (60 ∷ x ∷ bs) ≡ None
unfolding opening_tag
opening_not x bs e = rw e refl

closing_not : (x : ℕ) (bs : List ℕ) → x ≢ 47 → closing_tag (60 ∷ x ∷ bs) ≡ None
unfolding closing_tag
closing_not x bs h = rw (begins_not (codes "</") (60 ∷ x ∷ bs) 1 (omega arith) h) refl

pub less_byte : (mode : Mode) (x : ℕ) (bs : List ℕ) → IsTame x → form_at mode false (60 ∷ x ∷ bs) ≡ None
unfolding form_at raw_len include_at entity_at named_entity entity_names decimal_entity hex_entity sign_word
less_byte mode x bs h = rw (comment_not x bs h.1, opening_not x bs h.0, closing_not x bs h.2) refl

-- ---- entities

abbrev are_named : List (List ℕ × ℕ) → Bool
are_named [] = true
are_named ((name, c) ∷ entries) = (nat_lt 1 (length name) && is_ascii_alphabetic (get_or name 1 0)) && are_named entries

both_true : (a b : Bool) → (a && b) ≡ true → (a ≡ true) × (b ≡ true)
both_true true true e = (refl, refl)
both_true true false e = cc
both_true false b e = cc

lt_is : (m n : ℕ) → nat_lt m n ≡ true → m < n
lt_is m n e = grind (arith, nat_tests)

named_not : (entries : List (List ℕ × ℕ)) (x : ℕ) (bs : List ℕ) → are_named entries ≡ true → is_ascii_alphabetic x ≡ false
    → named_in entries (38 ∷ x ∷ bs) ≡ None
named_not [] x bs e h = refl
named_not ((name, c) ∷ entries) x bs e h =
    let p = both_true (nat_lt 1 (length name) && is_ascii_alphabetic (get_or name 1 0)) (are_named entries) e in
    let q = both_true (nat_lt 1 (length name)) (is_ascii_alphabetic (get_or name 1 0)) p.0 in
    let other : (x ≡ get_or name 1 0) → ⊥ = λ i. let no : true ≡ false = sym q.1 ∙ ap is_ascii_alphabetic (sym i) ∙ h in cc in
    ap (λ (t : Bool). if t then Some (c, length name) else named_in entries (38 ∷ x ∷ bs))
    (begins_not name (38 ∷ x ∷ bs) 1 (lt_is 1 (length name) q.0) other)
    ∙ named_not entries x bs p.1 h

names_named : are_named entity_names ≡ true
unfolding entity_names
names_named = refl

entity_not : (x : ℕ) (bs : List ℕ) → is_ascii_alphabetic x ≡ false → x ≢ 35 → entity_at (38 ∷ x ∷ bs) ≡ None
unfolding entity_at named_entity decimal_entity hex_entity
entity_not x bs h g =
    rw (
      named_not entity_names x bs names_named h,
      begins_not (codes "&#") (38 ∷ x ∷ bs) 1 (omega arith) g,
      begins_not (codes "&#x") (38 ∷ x ∷ bs) 1 (omega arith) g,
      begins_not (codes "&#X") (38 ∷ x ∷ bs) 1 (omega arith) g,
    ) refl

pub and_byte : (mode : Mode) (x : ℕ) (bs : List ℕ) → is_ascii_alphabetic x ≡ false → x ≢ 35 → form_at mode false (38 ∷ x ∷ bs) ≡ None
unfolding form_at comment_len raw_len include_at opening_tag closing_tag sign_word
and_byte mode x bs h g = rw (entity_not x bs h g) refl

-- ---- what is put by the spelling

pub nowiki_form : (mode : Mode) (bs : List ℕ) → form_at mode false (nowiki ++ bs) ≡ Some (Raw, 9)
unfolding form_at comment_len raw_len opening_tag tag_after with_inside is_extension nowiki
nowiki_form mode bs = refl

-- how many bytes a reference takes is told by its form
abbrev HasForm : Mode → List ℕ → ℕ → Type 0
HasForm mode bs c = form_at mode false (reference c ++ bs) ≡ Some (Entity c, length (reference c))

pub reference_form : (mode : Mode) (bs : List ℕ) (c : ℕ) → is_escapable c ≡ true → HasForm mode bs c
unfolding form_at comment_len raw_len include_at opening_tag closing_tag entity_at named_entity entity_names decimal_entity hex_entity reference digits
reference_form mode bs c e = each_escapable (HasForm mode bs) refl refl refl refl refl refl refl refl refl refl refl refl refl c e
