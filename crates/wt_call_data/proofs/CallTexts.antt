-- Texts of calls may be cut beside white space.
use Rattle.std.proofs.Common.{◌≡◌, ℕ, zero, suc, ◌+◌, ◌-◌, ◌<◌, ◌≤◌, true, Option, Some, List, length, get_or, refl, sym, ap, ◌∙◌, subst, arith}
use Rattle.std.specs.Prelude.{reverse, slice_index}
use Rattle.std.specs.List.{prefix_len}
use Rattle.std.specs.Str.{IsCharBoundary, IsUtf8}
use Rattle.std.proofs.lemmas.Bool.Decides.{nat_tests}
use Rattle.std.proofs.lemmas.List.{get_or-reverse, length-reverse}
use Rattle.std.proofs.lemmas.List.Sums.{prefix_len_passes, prefix_len-le-length}
use Rattle.std.proofs.lemmas.Str.{IsCharBoundary-after_ascii, IsCharBoundary-before_ascii, IsCharBoundary-start, IsCharBoundary-end}
use Rattle.wt_span.specs.Origins.{Span, OuterCall, IsBorder, IsNameEnd}
use Rattle.wt_call_data.specs.CallData.{is_white}
use Rattle.wt_call_data.specs.CallParts.{IsSoundPart}

white_small : (b : ℕ) → is_white b ≡ true → b < 128
white_small b e = grind (arith, nat_tests)

lead_by : (bs : List ℕ) (n : ℕ) → IsUtf8 bs → n ≡ prefix_len is_white bs → IsCharBoundary bs n
lead_by bs zero u e = IsCharBoundary-start bs u
lead_by bs (suc k) u e =
    let w : k < prefix_len is_white bs = omega (arith, e) in
    let l : k < length bs = omega (arith, w, prefix_len-le-length is_white bs) in
    let s : k + 1 ≡ suc k = omega arith in
    subst (IsCharBoundary bs) s (IsCharBoundary-after_ascii bs k u l (white_small (get_or bs k 0) (prefix_len_passes is_white bs k 0 w)))

pub lead_border : (bs : List ℕ) → IsUtf8 bs → IsCharBoundary bs (prefix_len is_white bs)
lead_border bs u = lead_by bs (prefix_len is_white bs) u refl

tail_by : (bs : List ℕ) (n : ℕ) → n ≡ prefix_len is_white (reverse bs) → IsCharBoundary bs (length bs - n)
tail_by bs zero e = let z : length bs ≡ length bs - 0 = omega arith in subst (IsCharBoundary bs) z (IsCharBoundary-end bs)
tail_by bs (suc k) e =
    let w : k < prefix_len is_white (reverse bs) = omega (arith, e) in
    let l : k < length bs = omega (arith, w, prefix_len-le-length is_white (reverse bs), length-reverse bs) in
    let s : length bs - 1 - k ≡ length bs - suc k = omega arith in
    let m : length bs - suc k < length bs = omega (arith, l) in
    let p : is_white (get_or bs (length bs - suc k) 0) ≡ true = ap (λ i. is_white (get_or bs i 0)) (sym s) ∙ ap is_white (sym (get_or-reverse bs k 0 l))
    ∙ prefix_len_passes is_white (reverse bs) k 0 w in
    IsCharBoundary-before_ascii bs (length bs - suc k) m (white_small (get_or bs (length bs - suc k) 0) p)

pub tail_border : (bs : List ℕ) → IsCharBoundary bs (length bs - prefix_len is_white (reverse bs))
tail_border bs = tail_by bs (prefix_len is_white (reverse bs)) refl

-- behind the sign that ends a name
pub after_sign : (c : OuterCall) (p : Span) (place : ℕ) (e : Option ℕ) → IsUtf8 c.source → e ≡ Some place → IsSoundPart c p e → IsBorder c (place + 1)
after_sign c p place e u q s =
    let n : IsNameEnd c p (Some place) = subst (λ (x : Option ℕ). IsNameEnd c p x) q s.5 in
    let k : ℕ = place - c.start in
    let low : c.start ≤ place = omega (arith, s.0, n.0) in
    let within : k < length c.source = omega (arith, low, n.1, s.2) in
    let small : slice_index c.source k < 128 = omega (arith, n.2) in
    let same : k + 1 ≡ place + 1 - c.start = omega (arith, low) in
    subst (IsCharBoundary c.source) same (IsCharBoundary-after_ascii c.source k u within small)
