-- A text can be cut where a form begins and where it ends.
use Rattle.std.proofs.Common.{◌≡◌, ℕ, ◌+◌, ◌-◌, ◌<◌, ◌≤◌, List, length, get_or, drop, ap, subst, ⊎_elim, arith, length-drop}
use Rattle.std.specs.Str.{IsUtf8, IsCharBoundary}
use Rattle.std.proofs.lemmas.List.{get_or-drop}
use Rattle.std.proofs.lemmas.Str.{IsCharBoundary-before_ascii, IsCharBoundary-after_ascii, IsCharBoundary-end}
use Rattle.wt_lex.proofs.Forms.{EndsWell}

pub border_before : (text : List ℕ) (at : ℕ) → at < length text → get_or (drop at text) 0 0 < 128 → IsCharBoundary text at
border_before text at h low =
    let z : at + 0 ≡ at = omega arith in
    let is : get_or text at 0 < 128 = omega (arith, get_or-drop at text 0 0, ap (λ k. get_or text k 0) z) in
    IsCharBoundary-before_ascii text at h is

pub border_after : (text : List ℕ) (at n : ℕ) → IsUtf8 text → at ≤ length text → 0 < n → n ≤ length (drop at text)
    → EndsWell (drop at text) n → IsCharBoundary text (at + n)
border_after text at n u h pos le ends =
    ⊎_elim
    (λ e.
    let there : length text ≡ at + n = omega (arith, length-drop at text) in
    subst (IsCharBoundary text) there (IsCharBoundary-end text))
    (λ low.
    let is : get_or text (at + (n - 1)) 0 < 128 = omega (arith, get_or-drop at text (n - 1) 0) in
    let there : at + (n - 1) + 1 ≡ at + n = omega arith in
    subst (IsCharBoundary text) there (IsCharBoundary-after_ascii text (at + (n - 1)) u (omega (arith, length-drop at text)) is))
    ends
