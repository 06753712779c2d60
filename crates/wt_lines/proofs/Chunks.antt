-- Bytes that are parted at line breaks.
use Rattle.std.proofs.Common.{◌≡◌, ◌≤◌, ◌<◌, ℕ, zero, suc, ◌+◌, Bool, true, false, List, [], ◌∷◌, length, take, get_or, refl, sym, ap, ◌∙◌, subst, cond, arith, inr}
use Rattle.std.specs.Prelude.{not}
use Rattle.std.specs.List.{prefix_len}
use Rattle.std.specs.Str.{IsUtf8, IsCharBoundary}
use Rattle.std.proofs.Math.Numerals.{one-add}
use Rattle.std.proofs.lemmas.Bool.Decides.{nat_tests}
use Rattle.std.proofs.lemmas.List.Sums.{prefix_len_stops}
use Rattle.std.proofs.lemmas.Str.{IsCharBoundary-after_ascii}
use Rattle.wt_span.specs.Bytes.{is_break}
use Rattle.wt_lines.specs.Pieces.{no_break, ArePartedBytes}

abbrev apart : ℕ → Bool
apart b = not (is_break b)

a_break : (b : ℕ) → apart b ≡ false → b ≡ 10
a_break b e = grind (arith, nat_tests)

break_at : (bs : List ℕ) (n : ℕ) → n ≡ prefix_len apart bs → n < length bs → get_or bs n 0 ≡ 10
break_at bs n e l =
    let s : prefix_len apart bs < length bs = omega (arith, e) in
    a_break (get_or bs n 0) (ap (λ k. apart (get_or bs k 0)) e ∙ prefix_len_stops apart bs 0 s)

-- a text can be cut before its first line break
pub border_before_break : (bs : List ℕ) (n : ℕ) → n ≡ prefix_len apart bs → n ≤ length bs → IsCharBoundary bs n
border_before_break bs n e w = (w, λ l h. absurd (omega (arith, break_at bs n e l)))

-- and after a first one at its front
pub border_after_break : (bs : List ℕ) (n : ℕ) → IsUtf8 bs → 0 < length bs → n ≡ prefix_len apart bs → n ≡ 0 → IsCharBoundary bs 1
border_after_break bs n u s e z =
    let first : get_or bs 0 0 ≡ 10 = break_at bs 0 (sym z ∙ e) s in
    IsCharBoundary-after_ascii bs 0 u s (omega (arith, first))

taken_by : (b : ℕ) (bs : List ℕ) (v : Bool) → apart b ≡ v → no_break (take (prefix_len apart bs) bs) ≡ true
    → no_break (take (cond v (1 + prefix_len apart bs) 0) (b ∷ bs)) ≡ true
taken_by b bs false e h = refl
taken_by b bs true e h = rw (one-add, e) h

taken : (bs : List ℕ) → no_break (take (prefix_len apart bs) bs) ≡ true
taken [] = refl
taken (b ∷ bs) = taken_by b bs (apart b) refl (taken bs)

some_taken : (n : ℕ) (bs : List ℕ) → 0 < n → 0 < length bs → 0 < length (take n bs)
some_taken zero bs n s = absurd (omega arith)
some_taken (suc n) [] p s = absurd (omega arith)
some_taken (suc n) (b ∷ bs) p s = omega arith

pub chunk_before_break : (bs : List ℕ) (n : ℕ) → 0 < length bs → n ≡ prefix_len apart bs → 0 < n → ArePartedBytes (take n bs)
chunk_before_break bs n s e p = inr (some_taken n bs p s, subst (λ (k : ℕ). no_break (take k bs) ≡ true) (sym e) (taken bs))
