-- The first and the last byte of what is written: no bracket and no brace that is typed, so none meets that of a node.
use Rattle.std.proofs.Common.{arith, ◌≡◌, inl, inr, ℕ, ◌≤◌, ◌==◌, Bool, true, false, List, [], ◌∷◌, ◌++◌, refl, sym, ap, subst, All}
use Rattle.std.specs.Prelude.{◌||◌, not, encode_utf8}
use Rattle.std.proofs.lemmas.Bool.{cases_lt, eqb-true}
use Rattle.std.proofs.lemmas.Bool.Decides.{nat_tests}
use Rattle.std.proofs.lemmas.List.Elements.{All-head, All-tail}
use Rattle.std.proofs.lemmas.Str.{encode_ascii}
use Rattle.wt_span.specs.declared.form.Mode.TheVariants.{Page}
use Rattle.wt_span.specs.Bytes.{is_break}
use Rattle.wt_names.proofs.Ascii.{IsWide, encode_wide}
use Rattle.wt_guards.specs.Content.{ContentSign, letter, thing}
use Rattle.wt_guards.specs.Guards.{Setting, nowiki, nowiki_if, is_guarded, spelled_from}
use Rattle.wt_guards.specs.Letters.{is_bracket, is_escaped, reference, written_by}
use Rattle.wt_guards.proofs.Escapes.{is_escapable, escapable}
use Rattle.wt_part_laws.specs.Lexer.{lexer}
use Rattle.wt_part_laws.specs.Scans.{after_all}
use Rattle.wt_typed_blocks.proofs.TextReads.{or_parts, bracket_escaped, not_bracket}
use Rattle.wt_text_edit_laws.specs.ReadContents.{BeginsUnclosed}
use Rattle.wt_text_edit_laws.specs.TextBetween.{EndsBy}
use Rattle.wt_text_edit_laws.proofs.Between.LineWords.{either}
use Rattle.wt_text_edit_laws.proofs.Texts.TypedItems.{references}
use Rattle.wt_beside_laws.specs.Kept.{is_lexeme_end}
use Rattle.wt_beside_laws.proofs.Marks.InLine.{reference_ends}
use Rattle.wt_called_edit_laws.specs.Written.{BeginsOutward, is_outward, EndsOutward, IsReadThing, AreReadThings}
use Rattle.wt_text_edit_laws.proofs.Cuts.Uncrossed.{BeginsOther, AreCut}

-- ---- a typed character that isn't escaped

pub plain_bracket : (s : Setting) (before : List ContentSign) (c : ℕ) (after : List ContentSign) → is_escaped s.within s.place before c after ≡ false → is_bracket c ≡ false
plain_bracket s before c after e =
    not_bracket (is_bracket c) (is_escaped s.within s.place before c after) (bracket_escaped s.within s.place before c after) e

-- each of the four
pub record IsNoBracket (c : ℕ) : Type 0 where
  pub opens : (c == 91) ≡ false
  pub closes : (c == 93) ≡ false
  pub opens_call : (c == 123) ≡ false
  pub closes_call : (c == 125) ≡ false

pub no_bracket : (c : ℕ) → is_bracket c ≡ false → IsNoBracket c
no_bracket c e =
    let a = or_parts (c == 91) (c == 93 || (c == 123 || (c == 125 || (c == 124 || c == 62)))) e in
    let b = or_parts (c == 93) (c == 123 || (c == 125 || (c == 124 || c == 62))) a.1 in
    let d = or_parts (c == 123) (c == 125 || (c == 124 || c == 62)) b.1 in
    let f = or_parts (c == 125) (c == 124 || c == 62) d.1 in
    record { opens = a.0; closes = b.0; opens_call = d.0; closes_call = f.0 }

-- ---- first bytes

abbrev pub FirstIs : (ℕ → Type 0) → List ℕ → Type 0
FirstIs P [] = Unit {0}
FirstIs P (b ∷ bs) = P b

first_both : (P : ℕ → Type 0) (xs ys : List ℕ) → FirstIs P xs → FirstIs P ys → FirstIs P (xs ++ ys)
first_both P [] ys h g = g
first_both P (x ∷ xs) ys h g = h

guard_first : (P : ℕ → Type 0) → P 60 → (u : Bool) → FirstIs P (nowiki_if u)
unfolding nowiki
guard_first P p true = p
guard_first P p false = tt

wide_first : (P : ℕ → Type 0) → ((x : ℕ) → 128 ≤ x → P x) → (bs : List ℕ) → All IsWide bs → FirstIs P bs
wide_first P f [] h = tt
wide_first P f (b ∷ bs) h = f b (All-head IsWide b bs h)

written_first : (P : ℕ → Type 0) → P 38 → ((x : ℕ) → 128 ≤ x → P x) → ((c : ℕ) → is_bracket c ≡ false → P c) → (e : Bool) (c : ℕ)
    → (e ≡ true → is_escapable c ≡ true) → (e ≡ false → is_bracket c ≡ false) → FirstIs P (written_by e c)
written_first P p f g true c h k = let r = references c (h refl) in subst (FirstIs P) (sym r.is) p
written_first P p f g false c h k = elim (cases_lt c 128) [
  | inl small ↦ subst (FirstIs P) (sym (encode_ascii c small)) (g c (k refl))
  | inr wide ↦ wide_first P f (encode_utf8 c) (encode_wide c wide)
]

abbrev pub AllFirst : (ℕ → Type 0) → List ContentSign → Type 0
AllFirst P [] = Unit {0}
AllFirst P (letter c ∷ after) = AllFirst P after
AllFirst P (thing t ∷ after) = FirstIs P t.source × AllFirst P after

pub spelled_first : (P : ℕ → Type 0) → P 60 → P 38 → ((x : ℕ) → 128 ≤ x → P x) → ((c : ℕ) → is_bracket c ≡ false → P c)
    → (s : Setting) (before signs : List ContentSign) → AllFirst P signs → FirstIs P (spelled_from s before signs)
spelled_first P p q f g s before [] h = guard_first P p (is_guarded s before [])
spelled_first P p q f g s before (letter c ∷ after) h =
    let e : Bool = is_escaped s.within s.place before c after in
    let more : List ℕ = spelled_from s (letter c ∷ before) after in
    first_both P (nowiki_if (is_guarded s before (letter c ∷ after))) (written_by e c ++ more) (guard_first P p (is_guarded s before (letter c ∷ after)))
    (first_both P (written_by e c) more
    (written_first P q f g e c (λ i. escapable s.within s.place before c after i) (λ i. plain_bracket s before c after i))
    (spelled_first P p q f g s (letter c ∷ before) after h))
spelled_first P p q f g s before (thing t ∷ after) h =
    let more : List ℕ = spelled_from s (thing t ∷ before) after in
    first_both P (nowiki_if (is_guarded s before (thing t ∷ after))) (t.source ++ more) (guard_first P p (is_guarded s before (thing t ∷ after)))
    (first_both P t.source more h.0 (spelled_first P p q f g s (thing t ∷ before) after h.1))

-- no `}` and no `]` is first
outward_first : (bs : List ℕ) → BeginsOutward bs → FirstIs (λ b. (b == 125 || b == 93) ≡ false) bs
outward_first [] h = tt
outward_first (b ∷ bs) h = h

all_outward : (signs : List ContentSign) → AreReadThings signs → AllFirst (λ b. (b == 125 || b == 93) ≡ false) signs
all_outward [] h = tt
all_outward (letter c ∷ after) h = all_outward after h
all_outward (thing t ∷ after) h = let own : IsReadThing t = h.0 in (outward_first t.source own.begins, all_outward after h.1)

both_false : (a b : Bool) → a ≡ false → b ≡ false → (a || b) ≡ false
both_false true b e f = e
both_false false b e f = f

wide_other : (x k : ℕ) → 128 ≤ x → k ≤ 127 → (x == k) ≡ false
wide_other x k le lt = grind (arith, nat_tests)

pub spelled_outward : (s : Setting) (before signs : List ContentSign) → AreReadThings signs
    → FirstIs (λ b. (b == 125 || b == 93) ≡ false) (spelled_from s before signs)
spelled_outward s before signs h =
    spelled_first (λ b. (b == 125 || b == 93) ≡ false) refl refl
    (λ x w. both_false (x == 125) (x == 93) (wide_other x 125 w (omega arith)) (wide_other x 93 w (omega arith)))
    (λ c e. let n = no_bracket c e in both_false (c == 125) (c == 93) n.closes_call n.closes)
    s before signs (all_outward signs h)

first_unclosed : (bs rest : List ℕ) → FirstIs (λ b. (b == 125 || b == 93) ≡ false) bs → BeginsUnclosed rest → BeginsUnclosed (bs ++ rest)
first_unclosed [] rest h u = u
first_unclosed (b ∷ bs) rest h u = let r = or_parts (b == 125) (b == 93) h in r.0

pub spelled_unclosed : (s : Setting) (before signs : List ContentSign) (rest : List ℕ) → AreReadThings signs → BeginsUnclosed rest
    → BeginsUnclosed (spelled_from s before signs ++ rest)
spelled_unclosed s before signs rest h u = first_unclosed (spelled_from s before signs) rest (spelled_outward s before signs h) u

-- ---- last bytes

pub ends_weaker : (p q : ℕ → Bool) → ((b : ℕ) → p b ≡ true → q b ≡ true) → (bs : List ℕ) → EndsBy p bs → EndsBy q bs
ends_weaker p q f [] h = tt
ends_weaker p q f (b ∷ []) h = f b h
ends_weaker p q f (b ∷ c ∷ bs) h = ends_weaker p q f (c ∷ bs) h

is_not : (x b : ℕ) → (b == x) ≡ false → not (b == x) ≡ true
is_not x b e = ap not e

lexeme_other : (x b : ℕ) → (62 == x) ≡ false → (59 == x) ≡ false → is_lexeme_end b ≡ true → not (b == x) ≡ true
lexeme_other x b e f h = elim (either (b == 62) (b == 59) h) [
  | inl i ↦ subst (λ (k : ℕ). not (k == x) ≡ true) (sym (eqb-true b 62 i)) (is_not x 62 e)
  | inr i ↦ subst (λ (k : ℕ). not (k == x) ≡ true) (sym (eqb-true b 59 i)) (is_not x 59 f)
]

wide_ends : (x : ℕ) → x ≤ 127 → (bs : List ℕ) → All IsWide bs → EndsBy (λ b. not (b == x)) bs
wide_ends x le [] h = tt
wide_ends x le (b ∷ []) h = is_not x b (wide_other b x (All-head IsWide b [] h) le)
wide_ends x le (b ∷ c ∷ bs) h = wide_ends x le (c ∷ bs) (All-tail IsWide b (c ∷ bs) h)

-- a written character doesn't end with this byte
pub written_ends : (x : ℕ) → x ≤ 127 → (62 == x) ≡ false → (59 == x) ≡ false → (e : Bool) (c : ℕ) → (e ≡ true → is_escapable c ≡ true)
    → (e ≡ false → (c == x) ≡ false) → EndsBy (λ b. not (b == x)) (written_by e c)
written_ends x le g f true c h k =
    ends_weaker is_lexeme_end (λ b. not (b == x)) (λ b i. lexeme_other x b g f i) (reference c) (reference_ends c (h refl))
written_ends x le g f false c h k = elim (cases_lt c 128) [
  | inl small ↦ subst (EndsBy (λ b. not (b == x))) (sym (encode_ascii c small)) (is_not x c (k refl))
  | inr wide ↦ wide_ends x le (encode_utf8 c) (encode_wide c wide)
]

-- ---- so no run of brackets or braces goes over the end

pub written_cut : (e : Bool) (c : ℕ) (q : List ℕ) → (e ≡ true → is_escapable c ≡ true) → (e ≡ false → is_bracket c ≡ false) → AreCut (written_by e c) q
written_cut e c q h k = (
  inl (written_ends 123 (omega arith) refl refl e c h (λ i. let n = no_bracket c (k i) in n.opens_call)),
  inl (written_ends 125 (omega arith) refl refl e c h (λ i. let n = no_bracket c (k i) in n.closes_call)),
  inl (written_ends 91 (omega arith) refl refl e c h (λ i. let n = no_bracket c (k i) in n.opens)),
  inl (written_ends 93 (omega arith) refl refl e c h (λ i. let n = no_bracket c (k i) in n.closes)),
)

pub nowiki_cut : (q : List ℕ) → AreCut nowiki q
unfolding nowiki
nowiki_cut q = (inl refl, inl refl, inl refl, inl refl)

first_other : (bs : List ℕ) → FirstIs (λ b. (b == 125 || b == 93) ≡ false) bs → BeginsOther 125 bs × BeginsOther 93 bs
first_other [] h = (tt, tt)
first_other (b ∷ bs) h = let r = or_parts (b == 125) (b == 93) h in (r.0, r.1)

not_true : (t : Bool) → not t ≡ true → t ≡ false
not_true true e = cc
not_true false e = refl

outward_parts : (b : ℕ) → is_outward b ≡ true → ((b == 10) ≡ false) × ((b == 123) ≡ false) × ((b == 91) ≡ false)
outward_parts b e =
    let r = or_parts (b == 10) (b == 123 || b == 91) (not_true (b == 10 || (b == 123 || b == 91)) e) in
    let t = or_parts (b == 123) (b == 91) r.1 in
    (r.0, t.0, t.1)

pub source_cut : (p q : List ℕ) → EndsOutward p → FirstIs (λ b. (b == 125 || b == 93) ≡ false) q → AreCut p q
source_cut p q h g =
    let r = first_other q g in (
      inl (ends_weaker is_outward (λ b. not (b == 123)) (λ b e. let t = outward_parts b e in is_not 123 b t.1) p h),
      inr r.0,
      inl (ends_weaker is_outward (λ b. not (b == 91)) (λ b e. let t = outward_parts b e in is_not 91 b t.2) p h),
      inr r.1,
    )

-- ---- whether a line begins behind it

after_last : (a : Bool) (b : ℕ) (bs : List ℕ) → EndsBy (λ d. not (d == 10)) (b ∷ bs) → after_all (lexer Page) a (b ∷ bs) ≡ false
after_last a b [] h = not_true (b == 10) h
after_last a b (c ∷ bs) h = after_last (is_break b) c bs h

after_other : (bs : List ℕ) → EndsBy (λ d. not (d == 10)) bs → after_all (lexer Page) false bs ≡ false
after_other [] h = refl
after_other (b ∷ bs) h = after_last false b bs h

pub source_after : (p : List ℕ) → EndsOutward p → after_all (lexer Page) false p ≡ false
source_after p h = after_other p (ends_weaker is_outward (λ b. not (b == 10)) (λ b e. let t = outward_parts b e in is_not 10 b t.0) p h)

pub nowiki_after : after_all (lexer Page) false nowiki ≡ false
unfolding nowiki
nowiki_after = refl

pub written_after : (e : Bool) (c : ℕ) → (e ≡ true → is_escapable c ≡ true) → (e ≡ false → (c == 10) ≡ false) → after_all (lexer Page) false (written_by e c) ≡ false
written_after e c h k = after_other (written_by e c) (written_ends 10 (omega arith) refl refl e c h k)
