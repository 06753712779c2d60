-- Lists cut at both ends.
use Rattle.std.proofs.Common.{◌≡◌, ℕ, zero, suc, ◌-◌, ◌<◌, Bool, true, List, ◌++◌, length, get_or, take, drop, sym, ap, ◌∙◌, subst, arith, length-drop, take-append-drop}
use Rattle.std.specs.Prelude.{reverse}
use Rattle.std.specs.List.{prefix_len}
use Rattle.std.specs.Str.{IsUtf8, IsCharBoundary}
use Rattle.std.proofs.Math.Seq.{take-append_seam}
use Rattle.std.proofs.lemmas.Bool.Decides.{nat_tests}
use Rattle.std.proofs.lemmas.List.{reverse-append, reverse-reverse, length-reverse, get_or-reverse}
use Rattle.std.proofs.lemmas.List.Sums.{prefix_len-le-length, prefix_len_passes}
use Rattle.std.proofs.lemmas.Str.{IsCharBoundary-start, IsCharBoundary-after_ascii}
use Rattle.wt_expand.specs.Texts.{is_space}
use Rattle.wt_transclusion.specs.Ends.{without_back}

-- ---- the end as a front

pub reversed_front : {A : Type 0} → (n : ℕ) (ys : List A) → reverse (drop n ys) ≡ take (length ys - n) (reverse ys)
reversed_front n ys =
    let whole : reverse (drop n ys) ++ reverse (take n ys) ≡ reverse ys = sym (reverse-append (take n ys) (drop n ys)) ∙ ap reverse (take-append-drop n ys) in
    let len : length (reverse (drop n ys)) ≡ length ys - n = length-reverse (drop n ys) ∙ length-drop n ys in
    sym (take-append_seam (reverse (drop n ys)) (reverse (take n ys))) ∙ ap (λ xs. take (length (reverse (drop n ys))) xs) whole
    ∙ ap (λ k. take k (reverse ys)) len

pub back_is : {A : Type 0} → (p : A → Bool) (xs : List A) → without_back p xs ≡ take (length xs - prefix_len p (reverse xs)) xs
back_is p xs =
    reversed_front (prefix_len p (reverse xs)) (reverse xs)
    ∙ ap (λ k. take (k - prefix_len p (reverse xs)) (reverse (reverse xs))) (length-reverse xs)
    ∙ ap (λ ys. take (length xs - prefix_len p (reverse xs)) ys) (reverse-reverse xs)

-- ---- where a text may be cut

space_ascii : (b : ℕ) → is_space b ≡ true → b < 128
space_ascii b e = grind (arith, nat_tests)

pub front_border : (bs : List ℕ) (n : ℕ) → IsUtf8 bs → n ≡ prefix_len is_space bs → IsCharBoundary bs n
front_border bs zero u e = IsCharBoundary-start bs u
front_border bs (suc k) u e =
    let w = prefix_len-le-length is_space bs in
    let l : k < length bs = omega (arith, e) in
    let s : get_or bs k 0 < 128 = space_ascii _ (prefix_len_passes is_space bs k 0 (omega (arith, e))) in
    subst (IsCharBoundary bs) (omega arith) (IsCharBoundary-after_ascii bs k u l s)

-- what stands behind the text without its last blanks is a blank
pub back_border : (bs : List ℕ) (n : ℕ) → n ≡ length bs - prefix_len is_space (reverse bs) → IsCharBoundary bs n
back_border bs n e =
    let w = prefix_len-le-length is_space (reverse bs) in
    let same = length-reverse bs in (
      omega (arith, e),
      λ l high.
          let m = length bs - 1 - n in
          let passes = prefix_len_passes is_space (reverse bs) m 0 (omega (arith, e, w, same)) in
          let at : get_or (reverse bs) m 0 ≡ get_or bs n 0 = get_or-reverse bs m 0 (omega arith) ∙ ap (λ k. get_or bs k 0) (omega arith) in
          let low : get_or bs n 0 < 128 = space_ascii _ (ap is_space (sym at) ∙ passes) in
          absurd (omega (arith, low, high)),
    )
