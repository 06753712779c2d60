-- What each form has: some bytes, within the text, a first byte of a few, and a last one that is ASCII, unless it ends with
-- the text.
use Rattle.std.proofs.Common.{◌≡◌, ℕ, suc, ◌+◌, ◌-◌, ◌<◌, ◌≤◌, ◌⊎◌, Bool, true, false, Option, Some, None, List, [], ◌∷◌, length, get_or, drop, nat_lt, refl, sym, ap, ◌∙◌, inl, inr, arith, length-drop, codes}
use Rattle.std.specs.Prelude.{if◌then◌else◌, ◌&&◌, ◌||◌}
use Rattle.std.specs.Option.{option_or}
use Rattle.std.proofs.lemmas.Bool.Decides.{nat_tests}
use Rattle.std.proofs.lemmas.List.{get_or-drop}
use Rattle.wt_span.specs.declared.form.LexKind.{LexKind}
use Rattle.wt_span.specs.declared.form.LexKind.TheVariants.{CommentLine}
use Rattle.wt_span.specs.Bytes.{is_break, is_blank, begins, through, blank_len}
use Rattle.wt_span.specs.Comments.{comment_len, remarks_with, remarks_len, comment_line_len}
use Rattle.wt_span.specs.Lexemes.{Word, as_word}
use Rattle.wt_lex.specs.Reading.{IsForm}
use Rattle.wt_lex.specs.Words.{is_form_byte, may_begin}
use Rattle.wt_lex.proofs.Begins.{and_left, and_right, lt_is, is_within, byte_is, begins_get, begins_len}

-- it ends with an ASCII byte, or with the text
abbrev pub EndsWell : List ℕ → ℕ → Type 0
EndsWell bs n = (n ≡ length bs) ⊎ (get_or bs (n - 1) 0 < 128)

-- so many bytes are cut out well
pub record Fits (bs : List ℕ) (n : ℕ) : Type 0 where
  pub some : 0 < n
  pub within : n ≤ length bs
  pub begins : is_form_byte (get_or bs 0 0) ≡ true
  pub ends : EndsWell bs n

abbrev pub OptFits : List ℕ → Option ℕ → Type 0
OptFits bs None = Unit {0}
OptFits bs (Some n) = Fits bs n

pub record FormFits (after : Bool) (bs : List ℕ) (w : Word) : Type 0 where
  pub some : 0 < w.1
  pub within : w.1 ≤ length bs
  pub form : IsForm w.0
  pub begins : may_begin after (get_or bs 0 0) ≡ true
  pub ends : EndsWell bs w.1

abbrev pub OptForm : Bool → List ℕ → Option Word → Type 0
OptForm after bs None = Unit {0}
OptForm after bs (Some w) = FormFits after bs w

pub or_form : (after : Bool) (bs : List ℕ) (a b : Option Word) → OptForm after bs a → OptForm after bs b → OptForm after bs (option_or a b)
or_form after bs None b f g = g
or_form after bs (Some w) b f g = f

pub if_form : (after : Bool) (bs : List ℕ) (t : Bool) (o : Option Word) → (t ≡ true → OptForm after bs o) → OptForm after bs (if t then o else None)
if_form after bs true o f = f refl
if_form after bs false o f = tt

pub if_fits : (bs : List ℕ) (t : Bool) (n : ℕ) → (t ≡ true → Fits bs n) → OptFits bs (if t then Some n else None)
if_fits bs true n f = f refl
if_fits bs false n f = tt

pub or_left : (a b : Bool) → a ≡ true → (a || b) ≡ true
or_left true b e = refl
or_left false b e = cc

or_right : (a b : Bool) → b ≡ true → (a || b) ≡ true
or_right true b e = refl
or_right false b e = e

pub form_by : (after : Bool) (bs : List ℕ) (kind : LexKind) (n : ℕ) → IsForm kind → Fits bs n → FormFits after bs (kind, n)
form_by after bs kind n is f = record { some = f.some; within = f.within; form = is; begins = or_left (is_form_byte (get_or bs 0 0)) _ f.begins; ends = f.ends }

pub as_form : (after : Bool) (bs : List ℕ) (kind : LexKind) (o : Option ℕ) → IsForm kind → OptFits bs o → OptForm after bs (as_word kind o)
as_form after bs kind None is f = tt
as_form after bs kind (Some n) is f = form_by after bs kind n is f

-- ---- comments

-- what a word ends ends with its last byte, or with the text
abbrev EndsWith : List ℕ → List ℕ → ℕ → Type 0
EndsWith word bs n = (n ≡ length bs) ⊎ ((0 < n) × (n ≤ length bs) × (get_or bs (n - 1) 0 ≡ get_or word (length word - 1) 0))

ends_later : (word bs : List ℕ) (b m : ℕ) → EndsWith word bs m → EndsWith word (b ∷ bs) (1 + m)
ends_later word bs b m (inl e) = inl (omega arith)
ends_later word bs b m (inr (pos, le, g)) =
    let z : 1 + m - 1 ≡ suc (m - 1) = omega arith in
    inr (omega arith, omega arith, ap (λ k. get_or (b ∷ bs) k 0) z ∙ g)

if_ends : (t : Bool) (word bs : List ℕ) (m : ℕ) → (t ≡ true → EndsWith word bs (length word)) → EndsWith word bs m
    → EndsWith word bs (if t then length word else m)
if_ends true word bs m f g = f refl
if_ends false word bs m f g = g

through_ends : (word bs : List ℕ) → 0 < length word → EndsWith word bs (through word bs)
through_ends word [] pos = inl refl
through_ends word (b ∷ bs) pos =
    if_ends (begins word (b ∷ bs)) word (b ∷ bs) (1 + through word bs)
    (λ e. inr (pos, begins_len word (b ∷ bs) e, begins_get word (b ∷ bs) e (length word - 1) (omega arith)))
    (ends_later word bs b (through word bs) (through_ends word bs pos))

comment_ends : (bs : List ℕ) (m : ℕ) → 4 ≤ length bs → get_or bs 0 0 ≡ 60 → EndsWith (codes "-->") (drop 4 bs) m → Fits bs (4 + m)
comment_ends bs m le first (inl e) = record {
  some = omega arith;
  within = omega (arith, length-drop 4 bs);
  begins =
      ap is_form_byte first;
  ends = inl (omega (arith, length-drop 4 bs));
}
comment_ends bs m le first (inr (pos, in_it, g)) =
    let z : 4 + m - 1 ≡ 4 + (m - 1) = omega arith in
    let e : get_or bs (4 + m - 1) 0 ≡ 62 = ap (λ k. get_or bs k 0) z ∙ sym (get_or-drop 4 bs (m - 1) 0) ∙ g in
    record { some = omega arith; within = omega (arith, length-drop 4 bs); begins = ap is_form_byte first; ends = inr (omega arith) }

pub comment_fits : (bs : List ℕ) → OptFits bs (comment_len bs)
unfolding comment_len
comment_fits bs =
    if_fits bs (begins (codes "<!--") bs) (4 + through (codes "-->") (drop 4 bs))
    (λ e. comment_ends bs (through (codes "-->") (drop 4 bs)) (begins_len (codes "<!--") bs e)
    (begins_get (codes "<!--") bs e 0 (omega arith)) (through_ends (codes "-->") (drop 4 bs) (omega arith)))

blank_first : (t : Bool) (m : ℕ) → 0 < (if t then 1 + m else 0) → t ≡ true
blank_first true m h = refl
blank_first false m h = absurd (omega arith)

first_begins : (o : Option ℕ) (b : ℕ) (bs : List ℕ) (rest : ℕ → ℕ) → OptFits (b ∷ bs) o → 0 < remarks_with o b rest → may_begin true b ≡ true
first_begins None b bs rest f h = or_right (is_form_byte b) (is_blank b) (blank_first (is_blank b) (rest 0) h)
first_begins (Some n) b bs rest f h = or_left (is_form_byte b) (is_blank b) f.begins

remarks_begin : (bs : List ℕ) → 0 < remarks_len 0 bs → may_begin true (get_or bs 0 0) ≡ true
remarks_begin [] h = absurd (omega arith)
remarks_begin (b ∷ bs) h = first_begins (comment_len (b ∷ bs)) b bs (λ n. remarks_len n bs) (comment_fits (b ∷ bs)) h

line_form : (bs : List ℕ) (t : Bool) (n : ℕ) → (t ≡ true → FormFits true bs (CommentLine, n))
    → OptForm true bs (as_word CommentLine (if t then Some n else None))
line_form bs true n f = f refl
line_form bs false n f = tt

pub comment_line_fits : (bs : List ℕ) → OptForm true bs (as_word CommentLine (comment_line_len bs))
unfolding comment_line_len
comment_line_fits bs =
    let n = remarks_len 0 bs in
    line_form bs (nat_lt (blank_len bs) n && is_break (get_or bs n 0)) (n + 1)
    (λ e.
    let more = lt_is (blank_len bs) n (and_left (nat_lt (blank_len bs) n) _ e) in
    let last = byte_is bs n 10 (and_right (nat_lt (blank_len bs) n) _ e) in
    let there = is_within bs n 10 last (omega arith) in
    let z : n + 1 - 1 ≡ n = omega arith in
    let low : get_or bs (n + 1 - 1) 0 < 128 = omega (arith, ap (λ k. get_or bs k 0) z) in
    record { some = omega arith; within = omega arith; form = tt; begins = remarks_begin bs (omega arith); ends = inr low })

-- a byte with which a form may begin is ASCII
pub begins_low : (after : Bool) (b : ℕ) → may_begin after b ≡ true → b < 128
begins_low after b e = grind (arith, nat_tests)
