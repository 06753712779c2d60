-- Stretches of a page that are told by numbers: each begins and ends at a place, and they stand one after the other.
use Rattle.std.proofs.Common.{arith, ◌≡◌, ℕ, ◌≤◌, List, [], ◌∷◌, ◌++◌, refl, sym, subst, inl, inr}
use Rattle.std.specs.List.{AllByRecursion}
use Rattle.wt_checks.specs.Kept.{IsSublist}
use Rattle.wt_splice.specs.Splice.{Change, AreApart}

-- from a place on these follow one another, where number k begins at `s k` and ends at `e k`
abbrev pub Chain : (ℕ → ℕ) → (ℕ → ℕ) → ℕ → List ℕ → Type 0
Chain s e from [] = Unit {0}
Chain s e from (k ∷ ks) = (from ≤ s k) × (s k ≤ e k) × Chain s e (e k) ks

-- where the last of them ends
abbrev pub end_after : (ℕ → ℕ) → ℕ → List ℕ → ℕ
end_after e from [] = from
end_after e from (k ∷ ks) = end_after e (e k) ks

pub chain_grows : (s e : ℕ → ℕ) (a : ℕ) (ks : List ℕ) → Chain s e a ks → a ≤ end_after e a ks
chain_grows s e a [] h = omega arith
chain_grows s e a (k ∷ ks) h = let r = chain_grows s e (e k) ks h.2 in omega (arith, h.0, h.1, r)

pub chain_lower : (s e : ℕ → ℕ) (b a : ℕ) (ks : List ℕ) → b ≤ a → Chain s e a ks → Chain s e b ks
chain_lower s e b a [] le h = tt
chain_lower s e b a (k ∷ ks) le h = (omega (arith, le, h.0), h.1, h.2)

pub end_lower : (e : ℕ → ℕ) (b a : ℕ) (ks : List ℕ) → b ≤ a → end_after e b ks ≤ end_after e a ks
end_lower e b a [] le = le
end_lower e b a (k ∷ ks) le = omega arith

pub chain_split : (s e : ℕ → ℕ) (a : ℕ) (ks js : List ℕ) → Chain s e a (ks ++ js) → Chain s e a ks × Chain s e (end_after e a ks) js
chain_split s e a [] js h = (tt, h)
chain_split s e a (k ∷ ks) js h = let r = chain_split s e (e k) ks js h.2 in ((h.0, h.1, r.0), r.1)

pub chain_join : (s e : ℕ → ℕ) (a : ℕ) (ks js : List ℕ) → Chain s e a ks → Chain s e (end_after e a ks) js → Chain s e a (ks ++ js)
chain_join s e a [] js h i = i
chain_join s e a (k ∷ ks) js h i = (h.0, h.1, chain_join s e (e k) ks js h.2 i)

pub end_join : (e : ℕ → ℕ) (a : ℕ) (ks js : List ℕ) → end_after e a (ks ++ js) ≡ end_after e (end_after e a ks) js
end_join e a [] js = refl
end_join e a (k ∷ ks) js = end_join e (e k) ks js

-- fewer of them
pub chain_sublist : (s e : ℕ → ℕ) (a : ℕ) (xs ys : List ℕ) → IsSublist xs ys → Chain s e a ys → Chain s e a xs × (end_after e a xs ≤ end_after e a ys)
chain_sublist s e a [] ys i h = (tt, chain_grows s e a ys h)
chain_sublist s e a (x ∷ xs) [] i h = absurd i
chain_sublist s e a (x ∷ xs) (y ∷ ys) (inl i) h =
    let r = chain_sublist s e (e y) xs ys i.1 h.2 in
    subst (λ (k : ℕ). Chain s e a (k ∷ xs) × (end_after e a (k ∷ xs) ≤ end_after e a (y ∷ ys))) (sym i.0) ((h.0, h.1, r.0), r.1)
chain_sublist s e a (x ∷ xs) (y ∷ ys) (inr i) h =
    let le : a ≤ e y = omega (arith, h.0, h.1) in
    let r = chain_sublist s e a (x ∷ xs) ys i (chain_lower s e a (e y) ys le h.2) in
    let t : end_after e a ys ≤ end_after e (e y) ys = end_lower e a (e y) ys le in
    (r.0, omega (arith, r.1, t))

-- each of them lies between two places
abbrev pub AreWithin : (ℕ → ℕ) → (ℕ → ℕ) → ℕ → ℕ → List ℕ → Type 0
AreWithin s e low high ks = AllByRecursion (λ k. (low ≤ s k) × (e k ≤ high)) ks

ends_within : (s e : ℕ → ℕ) (low high a : ℕ) (ks : List ℕ) → a ≤ high → AreWithin s e low high ks → end_after e a ks ≤ high
ends_within s e low high a [] le w = le
ends_within s e low high a (k ∷ ks) le w = ends_within s e low high (e k) ks w.0.1 w.1

pub chain_within : (s e : ℕ → ℕ) (low high a : ℕ) (ks : List ℕ) → low ≤ high → Chain s e a ks → AreWithin s e low high ks
    → Chain s e low ks × (end_after e low ks ≤ high)
chain_within s e low high a [] le h w = (tt, le)
chain_within s e low high a (k ∷ ks) le h w = ((w.0.0, h.1, h.2), ends_within s e low high (e k) ks w.0.1 w.1)

-- ---- slices

pub apart_lower : (b a z : ℕ) (cs : List Change) → b ≤ a → AreApart a cs z → AreApart b cs z
apart_lower b a z [] le h = omega (arith, le, h)
apart_lower b a z (c ∷ cs) le h = (omega (arith, le, h.0), h.1, h.2)

pub apart_raise : (a y z : ℕ) (cs : List Change) → y ≤ z → AreApart a cs y → AreApart a cs z
apart_raise a y z [] le h = omega (arith, le, h)
apart_raise a y z (c ∷ cs) le h = (h.0, h.1, apart_raise c.end y z cs le h.2)

pub apart_join : (a b z : ℕ) (cs ds : List Change) → AreApart a cs b → AreApart b ds z → AreApart a (cs ++ ds) z
apart_join a b z [] ds h i = apart_lower a b z ds h i
apart_join a b z (c ∷ cs) ds h i = (h.0, h.1, apart_join c.end b z cs ds h.2 i)
