-- As many line breaks are written as the content shows.
use Rattle.std.proofs.Common.{arith, ◌≡◌, ℕ, suc, ◌+◌, ◌==◌, Bool, true, false, List, [], ◌∷◌, ◌++◌, refl, sym, ap, ◌∙◌}
use Rattle.std.specs.Prelude.{encode_utf8, if◌then◌else◌}
use Rattle.std.specs.List.{flat_map}
use Rattle.std.specs.Fmt.{digits}
use Rattle.wt_guards.specs.Content.{ContentSign, letter, thing}
use Rattle.wt_guards.specs.Letters.{is_escaped, reference, written_by}
use Rattle.wt_guards.specs.Guards.{Setting, nowiki, nowiki_if, is_guarded, sign_written, spelled_from, spelled}
use Rattle.wt_guards.specs.WrittenLaws.{itself, breaks}
use Rattle.wt_guards.proofs.Escapes.{is_escapable, escapable, each_escapable}

one_more : (t : Bool) (m n k : ℕ) → m ≡ n + k → (if t then suc m else m) ≡ (if t then suc n else n) + k
one_more true m n k e = omega (arith, e)
one_more false m n k e = e

breaks_append : (xs ys : List ℕ) → breaks (xs ++ ys) ≡ breaks xs + breaks ys
breaks_append [] ys = omega arith
breaks_append (b ∷ xs) ys = one_more (b == 10) (breaks (xs ++ ys)) (breaks xs) (breaks ys) (breaks_append xs ys)

no_more : (n : ℕ) → 0 + n ≡ n
no_more n = omega arith

guard_breaks : (g : Bool) → breaks (nowiki_if g) ≡ 0
unfolding nowiki
guard_breaks true = refl
guard_breaks false = refl

abbrev SameBreaks : ℕ → Type 0
SameBreaks c = breaks (reference c) ≡ breaks (encode_utf8 c)

reference_breaks : (c : ℕ) → is_escapable c ≡ true → SameBreaks c
unfolding reference digits lib.Utf8.encode
reference_breaks c e = each_escapable SameBreaks refl refl refl refl refl refl refl refl refl refl refl refl refl c e

letter_breaks : (e : Bool) (c : ℕ) → (e ≡ true → is_escapable c ≡ true) → breaks (written_by e c) ≡ breaks (encode_utf8 c)
letter_breaks true c h = reference_breaks c (h refl)
letter_breaks false c h = refl

sign_breaks : (s : Setting) (before : List ContentSign) (sign : ContentSign) (after : List ContentSign) → breaks (sign_written s before sign after) ≡ breaks (itself sign)
sign_breaks s before (letter c) after =
    letter_breaks (is_escaped s.within s.place before c after) c (escapable s.within s.place before c after)
sign_breaks s before (thing t) after = refl

breaks_from : (s : Setting) (before signs : List ContentSign) → breaks (spelled_from s before signs) ≡ breaks (flat_map itself signs)
breaks_from s before [] = guard_breaks (is_guarded s before [])
breaks_from s before (sign ∷ after) =
    let g = nowiki_if (is_guarded s before (sign ∷ after)) in
    let w = sign_written s before sign after in
    let rest = spelled_from s (sign ∷ before) after in
    breaks_append g (w ++ rest) ∙ ap (λ (n : ℕ). n + breaks (w ++ rest)) (guard_breaks (is_guarded s before (sign ∷ after)))
    ∙ no_more (breaks (w ++ rest)) ∙ breaks_append w rest ∙ ap (λ (n : ℕ). n + breaks rest) (sign_breaks s before sign after)
    ∙ ap (λ (n : ℕ). breaks (itself sign) + n) (breaks_from s (sign ∷ before) after)
    ∙ sym (breaks_append (itself sign) (flat_map itself after))

pub same_breaks : (s : Setting) (signs : List ContentSign) → breaks (spelled s signs) ≡ breaks (flat_map itself signs)
same_breaks s signs = breaks_from s [] signs
