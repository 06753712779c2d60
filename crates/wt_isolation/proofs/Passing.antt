-- Text calls one after the other: what those that were passed tell of a block.
use Rattle.std.proofs.Common.{arith, ◌≡◌, ◌<◌, ◌≤◌, ℕ, zero, suc, Bool, true, false, refl, sym, ap, ◌∙◌, List, [], ◌∷◌, length, take, drop, get_or, take-append-drop, map}
use Rattle.std.specs.Prelude.{◌&&◌, ◌||◌, nat_lt}
use Rattle.std.specs.List.{list_any}
use Rattle.std.proofs.lemmas.Bool.{and_left, and_right}
use Rattle.std.proofs.lemmas.Bool.Decides.{nat_tests}
use Rattle.std.proofs.lemmas.List.{drop_all, get_or-map, length-map}
use Rattle.std.proofs.lemmas.List.Folds.{list_any-append}
use Rattle.wt_span.specs.Origins.{AreInOrder, Span, span_of}
use Rattle.wt_span.specs.declared.range.Range.{Range}
use Rattle.wt_tree.specs.declared.kind.Ranges.{Ranges}
use Rattle.wt_isolation.specs.TextCalls.{share_byte}

less_test : (a b : ℕ) → a < b → nat_lt a b ≡ true
less_test a b e = grind (arith, nat_tests)

not_less_test : (a b : ℕ) → b ≤ a → nat_lt a b ≡ false
not_less_test a b e = grind (arith, nat_tests)

or_none : (t : Bool) → (t || false) ≡ t
or_none true = refl
or_none false = refl

-- ---- calls that share no byte with a block

begins_behind : (s : Span) (r : Ranges) → r.end ≤ s.0 → share_byte s r ≡ false
begins_behind s r e =
    and_right (nat_lt s.0 s.1 && nat_lt r.start r.end) (nat_lt s.0 r.end && nat_lt r.start s.1)
    (and_left (nat_lt s.0 r.end) (nat_lt r.start s.1) (not_less_test s.0 r.end e))

empty_block : (s : Span) (r : Ranges) → r.end ≤ r.start → share_byte s r ≡ false
empty_block s r e =
    and_left (nat_lt s.0 s.1 && nat_lt r.start r.end) (nat_lt s.0 r.end && nat_lt r.start s.1)
    (and_right (nat_lt s.0 s.1) (nat_lt r.start r.end) (not_less_test r.start r.end e))

pub none_touched : (calls : List Span) (r : Ranges) → r.end ≤ r.start → list_any (λ s. share_byte s r) calls ≡ false
none_touched [] r e = refl
none_touched (s ∷ ss) r e = ap (λ (t : Bool). t || list_any (λ s. share_byte s r) ss) (empty_block s r e) ∙ none_touched ss r e

all_behind : (calls : List Span) (r : Ranges) → AreInOrder calls → (0 < length calls → r.end ≤ (get_or calls 0 (0, 0)).0)
    → list_any (λ s. share_byte s r) calls ≡ false
all_behind [] r o h = refl
all_behind (s ∷ []) r o h = ap (λ (t : Bool). t || false) (begins_behind s r (h (omega arith)))
all_behind (s ∷ t ∷ ss) r o h =
    let first : r.end ≤ s.0 = h (omega arith) in
    let rises : s.0 ≤ t.0 = o.0 in
    ap (λ (b : Bool). b || list_any (λ s. share_byte s r) (t ∷ ss)) (begins_behind s r first)
    ∙ all_behind (t ∷ ss) r o.1 (λ _. omega (arith, first, rises))

pub none_left : (calls : List Span) (i : ℕ) (r : Ranges) → AreInOrder calls → (i < length calls → r.end ≤ (get_or calls i (0, 0)).0)
    → list_any (λ s. share_byte s r) (drop i calls) ≡ false
none_left calls zero r o h = all_behind calls r o h
none_left [] (suc i) r o h = refl
none_left (s ∷ []) (suc i) r o h = none_left [] i r tt (λ lt. absurd (omega (arith, lt)))
none_left (s ∷ t ∷ ss) (suc i) r o h = none_left (t ∷ ss) i r o.1 (λ lt. h (omega (arith, lt)))

pub none_left_at : (cs : List Range) (i n : ℕ) (s : Range) (place : ℕ) (r : Ranges) → AreInOrder (map span_of cs) → n ≡ i → i < length cs
    → s ≡ get_or cs i s → place ≤ s.start → r.end ≡ place → list_any (λ c. share_byte c r) (drop n (map span_of cs)) ≡ false
none_left_at cs i n s place r o same lt is behind ends =
    none_left (map span_of cs) n r o
    (λ _. let at : get_or (map span_of cs) n (0, 0) ≡ span_of s =
    ap (λ (k : ℕ). get_or (map span_of cs) k (0, 0)) same ∙ get_or-map span_of cs i s (0, 0) lt ∙ ap span_of (sym is) in
    let first : (get_or (map span_of cs) n (0, 0)).0 ≡ s.start = ap (λ (c : Span). c.0) at in
    omega (arith, first, behind, ends))

pub none_left_past : (cs : List Range) (n : ℕ) (r : Ranges) → length cs ≤ n → list_any (λ c. share_byte c r) (drop n (map span_of cs)) ≡ false
none_left_past cs n r past =
    ap (list_any (λ (c : Span). share_byte c r)) (drop_all n (map span_of cs) (let len = length-map cs span_of in omega (arith, len, past)))

-- ---- all calls

pub by_passed : (calls : List Span) (i : ℕ) (r : Ranges) (far : ℕ) → list_any (λ s. share_byte s r) (take i calls) ≡ nat_lt r.start far
    → list_any (λ s. share_byte s r) (drop i calls) ≡ false → nat_lt r.start far ≡ list_any (λ s. share_byte s r) calls
by_passed calls i r far front rest =
    let test : Span → Bool = λ s. share_byte s r in
    sym (ap (list_any test) (sym (take-append-drop i calls)) ∙ list_any-append test (take i calls) (drop i calls)
    ∙ ap (λ (t : Bool). t || list_any test (drop i calls)) front ∙ ap (λ (t : Bool). nat_lt r.start far || t) rest ∙ or_none (nat_lt r.start far))
