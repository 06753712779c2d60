-- Where the text of a URL may be cut.
use Rattle.std.proofs.Common.{◌≡◌, ℕ, ◌<◌, Bool, false, Some, List, [], ◌∷◌, length, get_or, sym, ap, ◌∙◌, arith}
use Rattle.std.specs.Prelude.{not, slice_get}
use Rattle.std.specs.List.{prefix_len}
use Rattle.std.specs.Str.{IsUtf8, IsCharBoundary}
use Rattle.std.proofs.lemmas.Bool.Decides.{nat_tests}
use Rattle.std.proofs.lemmas.List.Sums.{prefix_len_stops, prefix_len-le-length}
use Rattle.std.proofs.lemmas.Str.{IsCharBoundary-after_ascii}
use Rattle.wt_span.specs.Bytes.{is_blank}

abbrev unblank : ℕ → Bool
unblank b = not (is_blank b)

blank_ascii : (b : ℕ) → unblank b ≡ false → b < 128
blank_ascii b e = grind (arith, nat_tests)

pub blank_border : (bs : List ℕ) (n : ℕ) → n ≡ prefix_len unblank bs → IsCharBoundary bs n
blank_border bs n e =
    let w = prefix_len-le-length unblank bs in (
      omega (arith, e, w),
      λ l high.
          let k : prefix_len unblank bs < length bs = omega (arith, e, l) in
          let is : get_or bs n 0 < 128 = blank_ascii _ (ap (λ m. unblank (get_or bs m 0)) e ∙ prefix_len_stops unblank bs 0 k) in
          absurd (omega (arith, is, high)),
    )

some_is : (a b : ℕ) → Some a ≡ Some b → a ≡ b
some_is a b e = cc

first_by : (bs : List ℕ) (b : ℕ) → Some b ≡ slice_get bs 0 → b ≡ 91 → (0 < length bs) × (get_or bs 0 0 ≡ 91)
first_by [] b e f = cc
first_by (a ∷ bs) b e f = (omega arith, sym (some_is b a e) ∙ f)

pub first_border : (text bytes : List ℕ) (b : ℕ) → bytes ≡ text → IsUtf8 text → Some b ≡ slice_get bytes 0 → b ≡ 91 → IsCharBoundary text 1
first_border text bytes b i u e f =
    let g = first_by text b (e ∙ ap (λ t. slice_get t 0) i) f in
    let is = g.1 in
    IsCharBoundary-after_ascii text 0 u g.0 (omega (arith, is))
