-- Where no number is unknown, all numbers, and all numbers of kept parents, are among the page's.
use Rattle.std.proofs.Common.{◌≡◌, ◌<◌, ℕ, Bool, true, false, List, [], ◌∷◌, ◌++◌, length, refl, sym, ap, ◌∙◌, subst, arith, inl, inr}
use Rattle.std.specs.Prelude.{◌==◌, ◌&&◌, ◌||◌, not, if◌then◌else◌, Option, Some, None, option_map, All}
use Rattle.std.specs.List.{AllByRecursion}
use Rattle.std.proofs.lemmas.Bool.Decides.{nat_tests}
use Rattle.std.proofs.lemmas.List.Elements.{All-from_recursion, recursion_from_All}
use Rattle.std.proofs.lemmas.Option.{slice_get_cases}
use Rattle.wt_tree.specs.Tree.{Tree, tree, Trees, none, more}
use Rattle.wt_tree.specs.declared.node.Node.{out-Node}
use Rattle.wt_checks.specs.declared.visit.Visit.{Visit}
use Rattle.wt_checks.specs.Ids.{is_there, is_unknown}
use Rattle.wt_checks.specs.Places.{Place, placed, all_placed, places, number, parent_below, is_content, first_after, first}
use Rattle.wt_checks.specs.View.{seen, all_seen, indexed}
use Rattle.wt_checks.proofs.Firsts.{number_seen}
use Rattle.wt_checks.proofs.Lookups.{each_split, each_join}

none_split : (b : Bool) (n : ℕ) (o : Option ℕ) → (if b then Some n else o) ≡ None → (b ≡ false) × (o ≡ None)
none_split true n o e = absurd (cc)
none_split false n o e = (refl, e)

zero_or : (n m : ℕ) → (not (n == 0) && true) ≡ false → 0 < m → n < m
zero_or n m e h = grind (arith, nat_tests)

known_by : (index : List Visit) (n : ℕ) → 0 < length index → (not (n == 0) && not (is_there (indexed index n))) ≡ false → n < length index
known_by index n some e =
    elim (slice_get_cases index n).1 [
      | inl w ↦ w.1
      | inr w ↦ zero_or n (length index) (ap (λ o. not (n == 0) && not (is_there (option_map seen o))) (sym w.1) ∙ e) some
    ]

abbrev pub Numbers : ℕ → List Visit → Type 0
Numbers n vs = AllByRecursion (λ (v : Visit). (out-Node v.node.now).id < n) vs

known : (index : List Visit) (before : List Place) (vs : List Visit) → 0 < length index
    → first_after (is_unknown (indexed index)) before (all_seen vs) ≡ None → Numbers (length index) vs
known index before [] some e = tt
known index before (v ∷ vs) some e =
    let h = none_split (is_unknown (indexed index) before (seen v) (all_seen vs)) (number (seen v))
    (first_after (is_unknown (indexed index)) (before ++ seen v ∷ []) (all_seen vs)) e in
    (subst (λ (n : ℕ). n < length index) (number_seen v) (known_by index (number (seen v)) some h.0), known index (before ++ seen v ∷ []) vs some h.1)

pub all_known : (index vs : List Visit) → 0 < length index → None ≡ first (is_unknown (indexed index)) (all_seen vs)
    → All (λ (v : Visit). (out-Node v.node.now).id < length index) vs
all_known index vs some e = All-from_recursion (λ (v : Visit). (out-Node v.node.now).id < length index) vs (known index [] vs some (sym e))

-- ---- parents

below_by : (n parent id : ℕ) → parent < n → id < n → parent_below parent id < n
below_by n parent id p i = by_test (id == 0)
  where
    by_test : (b : Bool) → (if b then parent else id) < n
    by_test true = p
    by_test false = i

mutual
  parents_below : (n parent : ℕ) (within : Bool) (t : Tree) → parent < n → AllByRecursion (λ (p : Place). number p < n)
      (placed parent within t) → AllByRecursion (λ (p : Place). p.parent < n) (placed parent within t)
  parents_below n parent within (tree l ts) p h =
      (p, all_parents_below n (parent_below parent l.id) (within || is_content l.mark) ts (below_by n parent l.id p h.0) h.1)

  all_parents_below : (n parent : ℕ) (within : Bool) (ts : Trees) → parent < n → AllByRecursion (λ (p : Place). number p < n)
      (all_placed parent within ts) → AllByRecursion (λ (p : Place). p.parent < n) (all_placed parent within ts)
  all_parents_below n parent within none p h = tt
  all_parents_below n parent within (more t ts) p h =
      let s = each_split (λ (q : Place). number q < n) (placed parent within t) (all_placed parent within ts) h in
      each_join (λ (q : Place). q.parent < n) (placed parent within t) (all_placed parent within ts)
      (parents_below n parent within t p s.0) (all_parents_below n parent within ts p s.1)

numbers_seen : (n : ℕ) (vs : List Visit) → Numbers n vs → AllByRecursion (λ (p : Place). number p < n) (all_seen vs)
numbers_seen n [] h = tt
numbers_seen n (v ∷ vs) h = (subst (λ (m : ℕ). m < n) (sym (number_seen v)) h.0, numbers_seen n vs h.1)

parents_seen : (n : ℕ) (vs : List Visit) → AllByRecursion (λ (p : Place). p.parent < n) (all_seen vs) → AllByRecursion (λ (v : Visit). v.parent < n) vs
parents_seen n [] h = tt
parents_seen n (v ∷ vs) h = (h.0, parents_seen n vs h.1)

pub parents_known : (n : ℕ) (t : Tree) (vs : List Visit) → 0 < n → all_seen vs ≡ places t
    → All (λ (v : Visit). (out-Node v.node.now).id < n) vs → All (λ (v : Visit). v.parent < n) vs
parents_known n t vs some e h =
    let numbers : AllByRecursion (λ (p : Place). number p < n) (places t) =
    subst (λ (ps : List Place). AllByRecursion (λ (p : Place). number p < n) ps) e
    (numbers_seen n vs (recursion_from_All (λ (v : Visit). (out-Node v.node.now).id < n) vs h)) in
    All-from_recursion (λ (v : Visit). v.parent < n) vs
    (parents_seen n vs (subst (λ (ps : List Place). AllByRecursion (λ (p : Place). p.parent < n) ps) (sym e)
    (parents_below n 0 false t some numbers)))
