-- Calls that are begun and written: how many stay begun, and that their numbers are small.
use Rattle.std.proofs.Common.{◌≡◌, ℕ, suc, ◌<◌, ◌≤◌, ◌^◌, Bool, true, false, Option, Some, List, [], ◌∷◌, length, nat_le, ap, subst, arith}
use Rattle.std.specs.Prelude.{if◌then◌else◌}
use Rattle.std.proofs.lemmas.Bool.Decides.{nat_tests}
use Rattle.wt_span.specs.Braces.{CallAt}
use Rattle.wt_braces.specs.Views.{ClosedAt}
use Rattle.wt_braces.specs.Nested.{Nested, first_of, call_in, deep_in, settled, AreFew}

pub few_first : (cs : List ClosedAt) (n : ℕ) → AreFew cs → first_of cs ≡ Some n → n ≤ 2 ^ 30
few_first [] n h e = absurd cc
few_first (c ∷ cs) n h e = let same : c.first ≡ n = cc in subst (λ k. k ≤ 2 ^ 30) same h.0

if_few : (t : Bool) (a b : Nested) → AreFew a.begun → AreFew b.begun → AreFew (if t then a else b).begun
if_few true a b f g = f
if_few false a b f g = g

pub settled_few : (left : ℕ) (cs : List ClosedAt) (w : List CallAt) (d : Option ℕ) → AreFew cs → AreFew (settled left cs w d).begun
settled_few left [] w d h = h
settled_few left (c ∷ cs) w d h =
    if_few (nat_le left c.first) (settled left cs (call_in c cs ∷ w) (deep_in c cs d))
    (record { begun = c ∷ cs; written = w; deep = d }) (settled_few left cs (call_in c cs ∷ w) (deep_in c cs d) h.1) h

if_len : (t : Bool) (a b : Nested) (n : ℕ) → length a.begun ≤ n → length b.begun ≤ n → length (if t then a else b).begun ≤ n
if_len true a b n f g = f
if_len false a b n f g = g

pub settled_len : (left : ℕ) (cs : List ClosedAt) (w : List CallAt) (d : Option ℕ) → length (settled left cs w d).begun ≤ length cs
settled_len left [] w d = omega arith
settled_len left (c ∷ cs) w d =
    if_len (nat_le left c.first) (settled left cs (call_in c cs ∷ w) (deep_in c cs d))
    (record { begun = c ∷ cs; written = w; deep = d }) (suc (length cs))
    (omega (arith, settled_len left cs (call_in c cs ∷ w) (deep_in c cs d))) (omega arith)

-- the innermost one is written
pub settled_yes : (left : ℕ) (c : ClosedAt) (cs : List ClosedAt) (w : List CallAt) (d : Option ℕ) → left ≤ c.first
    → settled left (c ∷ cs) w d ≡ settled left cs (call_in c cs ∷ w) (deep_in c cs d)
settled_yes left c cs w d h =
    let e : nat_le left c.first ≡ true = grind (arith, nat_tests) in
    ap (λ t. if t then settled left cs (call_in c cs ∷ w) (deep_in c cs d) else record { begun = c ∷ cs; written = w; deep = d }) e

-- nothing is written
pub settled_no : (left : ℕ) (c : ClosedAt) (cs : List ClosedAt) (w : List CallAt) (d : Option ℕ) → c.first < left
    → settled left (c ∷ cs) w d ≡ record { begun = c ∷ cs; written = w; deep = d }
settled_no left c cs w d h =
    let e : nat_le left c.first ≡ false = grind (arith, nat_tests) in
    ap (λ t. if t then settled left cs (call_in c cs ∷ w) (deep_in c cs d) else record { begun = c ∷ cs; written = w; deep = d }) e
