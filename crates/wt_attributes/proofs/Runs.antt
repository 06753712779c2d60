-- Runs of bytes at the front of a text.
use Rattle.std.proofs.Common.{◌≡◌, ◌<◌, ℕ, zero, suc, ◌+◌, Bool, true, false, List, [], ◌∷◌, ◌++◌, length, take, drop, get_or, refl, ap, subst, cond, arith}
use Rattle.std.specs.Prelude.{Some, slice_get}
use Rattle.std.specs.List.{prefix_len}
use Rattle.std.specs.Str.{IsUtf8, IsCharBoundary}
use Rattle.std.proofs.Math.Numerals.{one-add}
use Rattle.std.proofs.lemmas.Bool.Decides.{nat_tests}
use Rattle.std.proofs.lemmas.List.Sums.{prefix_len_stops, prefix_len_passes, prefix_len-le-length}
use Rattle.std.proofs.lemmas.Str.{IsCharBoundary-after_ascii, IsCharBoundary-start}
use Rattle.wt_span.specs.Bytes.{is_blank}
use Rattle.wt_attributes.specs.declared.class.ScanClass.{ScanClass}
use Rattle.wt_attributes.specs.declared.class.ScanClass.TheVariants as class
use Rattle.wt_attributes.specs.Classes.{in_class, ends_in_ascii, run_len}
use Rattle.wt_attributes.specs.Spelled.{Each, EndsAt}

-- ---- where a run ends

pub run_over : (p : ℕ → Bool) (xs ys : List ℕ) → Each p xs → EndsAt p ys → prefix_len p (xs ++ ys) ≡ length xs
run_over p [] [] h e = refl
run_over p [] (y ∷ ys) h e = rw e refl
run_over p (x ∷ xs) ys h e = rw (h.0, one-add) (ap suc (run_over p xs ys h.1 e))

each_by : (p : ℕ → Bool) (b : ℕ) (bs : List ℕ) (v : Bool) → p b ≡ v → Each p (take (prefix_len p bs) bs)
    → Each p (take (cond v (1 + prefix_len p bs) 0) (b ∷ bs))
each_by p b bs false e h = tt
each_by p b bs true e h = rw one-add (e, h)

pub each_taken : (p : ℕ → Bool) (bs : List ℕ) → Each p (take (prefix_len p bs) bs)
each_taken p [] = tt
each_taken p (b ∷ bs) = each_by p b bs (p b) refl (each_taken p bs)

ends_by : (p : ℕ → Bool) (b : ℕ) (bs : List ℕ) (v : Bool) → p b ≡ v → EndsAt p (drop (prefix_len p bs) bs)
    → EndsAt p (drop (cond v (1 + prefix_len p bs) 0) (b ∷ bs))
ends_by p b bs false e h = e
ends_by p b bs true e h = rw one-add h

pub ends_dropped : (p : ℕ → Bool) (bs : List ℕ) → EndsAt p (drop (prefix_len p bs) bs)
ends_dropped p [] = tt
ends_dropped p (b ∷ bs) = ends_by p b bs (p b) refl (ends_dropped p bs)

-- ---- where a text may be cut

blank_ascii : (b : ℕ) → is_blank b ≡ true → b < 128
blank_ascii b e = grind (arith, nat_tests)

pub ascii_end : (c : ScanClass) (b : ℕ) → ends_in_ascii c ≡ true → in_class c b ≡ false → b < 128
ascii_end class.Blank b h e = cc
ascii_end class.NoBlank b h e = grind (arith, nat_tests)
ascii_end class.Bare b h e = grind (arith, nat_tests)
ascii_end class.NoDouble b h e = grind (arith, nat_tests)
ascii_end class.NoSingle b h e = grind (arith, nat_tests)

-- before a byte that ends a run, where that is in ASCII
pub border_before : (c : ScanClass) (bs : List ℕ) → ends_in_ascii c ≡ true → IsCharBoundary bs (run_len c bs)
border_before c bs h =
    let w = prefix_len-le-length (in_class c) bs in
    (w, λ l k. let s : get_or bs (run_len c bs) 0 < 128 = ascii_end c _ h (prefix_len_stops (in_class c) bs 0 l) in absurd (omega arith))

-- and behind it
pub border_behind : (c : ScanClass) (bs : List ℕ) → IsUtf8 bs → ends_in_ascii c ≡ true → run_len c bs < length bs → IsCharBoundary bs (run_len c bs + 1)
border_behind c bs u h l = IsCharBoundary-after_ascii bs (run_len c bs) u l (ascii_end c _ h (prefix_len_stops (in_class c) bs 0 l))

-- behind blanks
border_blank : (bs : List ℕ) (n : ℕ) → IsUtf8 bs → n ≡ run_len class.Blank bs → IsCharBoundary bs n
border_blank bs zero u e = IsCharBoundary-start bs u
border_blank bs (suc k) u e =
    let w = prefix_len-le-length is_blank bs in
    let l : k < length bs = omega (arith, e) in
    let s : get_or bs k 0 < 128 = blank_ascii _ (prefix_len_passes is_blank bs k 0 (omega (arith, e))) in
    subst (IsCharBoundary bs) (omega arith) (IsCharBoundary-after_ascii bs k u l s)

pub border_run : (c : ScanClass) (bs : List ℕ) → IsUtf8 bs → IsCharBoundary bs (run_len c bs)
border_run class.Blank bs u = border_blank bs (run_len class.Blank bs) u refl
border_run class.NoBlank bs u = border_before class.NoBlank bs refl
border_run class.Bare bs u = border_before class.Bare bs refl
border_run class.NoDouble bs u = border_before class.NoDouble bs refl
border_run class.NoSingle bs u = border_before class.NoSingle bs refl

-- behind a first sign in ASCII
pub border_sign : (bs : List ℕ) (first sign : ℕ) → IsUtf8 bs → Some first ≡ slice_get bs 0 → first ≡ sign → sign < 128 → IsCharBoundary bs 1
border_sign [] first sign u is e l = absurd cc
border_sign (b ∷ bs) first sign u is e l =
    let same : first ≡ b = cc in
    let low : b < 128 = omega (arith, same, e) in
    IsCharBoundary-after_ascii (b ∷ bs) 0 u (omega arith) low
