-- A call of the page and a block share a byte: as it is computed, and in other words.
use Rattle.std.proofs.Common.{arith, ◌≡◌, ◌<◌, ◌≤◌, ◌↔◌, ℕ, Bool, true, false, refl}
use Rattle.std.specs.Prelude.{◌&&◌, nat_lt}
use Rattle.std.proofs.lemmas.Bool.Decides.{nat_tests}
use Rattle.wt_span.specs.Origins.{Span}
use Rattle.wt_tree.specs.declared.kind.Ranges.{Ranges}
use Rattle.wt_isolation.specs.TangledLaws.{SharesByte}
use Rattle.wt_isolation.specs.TextCalls.{share_byte}

less_test : (a b : ℕ) → a < b → nat_lt a b ≡ true
less_test a b e = grind (arith, nat_tests)

is_less : (a b : ℕ) → nat_lt a b ≡ true → a < b
is_less a b e = grind (arith, nat_tests)

is_not_less : (a b : ℕ) → nat_lt a b ≡ false → b ≤ a
is_not_less a b e = grind (arith, nat_tests)

both : (a b : Bool) → (a && b) ≡ true → (a ≡ true) × (b ≡ true)
both true b e = (refl, e)
both false b e = absurd (cc)

both_hold : (a b : Bool) → a ≡ true → b ≡ true → (a && b) ≡ true
both_hold true b e f = f
both_hold false b e f = absurd (cc)

-- the greater of the two starts
first_shared : (a b c d : ℕ) → a < b → c < d → a < d → c < b → (n : ℕ) × (a ≤ n) × (n < b) × (c ≤ n) × (n < d)
first_shared a b c d e f g h = by (nat_lt a c) refl
  where
    by : (t : Bool) → nat_lt a c ≡ t → (n : ℕ) × (a ≤ n) × (n < b) × (c ≤ n) × (n < d)
    by true q = let less = is_less a c q in (c, omega (arith, less), h, omega arith, f)
    by false q = (a, omega arith, e, is_not_less a c q, g)

found : (s : Span) (r : Ranges) → share_byte s r ≡ true → SharesByte s r
found s r e =
    let halves = both (nat_lt s.0 s.1 && nat_lt r.start r.end) (nat_lt s.0 r.end && nat_lt r.start s.1) e in
    let some = both (nat_lt s.0 s.1) (nat_lt r.start r.end) halves.0 in
    let meet = both (nat_lt s.0 r.end) (nat_lt r.start s.1) halves.1 in
    first_shared s.0 s.1 r.start r.end (is_less s.0 s.1 some.0) (is_less r.start r.end some.1) (is_less s.0 r.end meet.0) (is_less r.start s.1 meet.1)

told : (s : Span) (r : Ranges) → SharesByte s r → share_byte s r ≡ true
told s r (n, a, b, c, d) =
    both_hold (nat_lt s.0 s.1 && nat_lt r.start r.end) (nat_lt s.0 r.end && nat_lt r.start s.1)
    (both_hold (nat_lt s.0 s.1) (nat_lt r.start r.end) (less_test s.0 s.1 (omega (arith, a, b))) (less_test r.start r.end (omega (arith, c, d))))
    (both_hold (nat_lt s.0 r.end) (nat_lt r.start s.1) (less_test s.0 r.end (omega (arith, a, d))) (less_test r.start s.1 (omega (arith, c, b))))

pub shared : (s : Span) (r : Ranges) → (share_byte s r ≡ true) ↔ SharesByte s r
shared s r = (found s r, told s r)
