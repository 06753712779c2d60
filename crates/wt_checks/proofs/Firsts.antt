-- The first place of which a condition holds, one place at a time.
use Rattle.std.proofs.Common.{◌≡◌, ◌≤◌, ℕ, ◌+◌, ◌<◌, Bool, true, false, Some, None, List, [], ◌∷◌, ◌++◌, length, take, drop, get_or, sym, ap, ◌∙◌}
use Rattle.std.specs.Prelude.{if◌then◌else◌}
use Rattle.std.proofs.lemmas.List.{take_more, drop_more, map-append, drop_all}
use Rattle.wt_tree.specs.declared.node.Node.{out-Node}
use Rattle.wt_tree.proofs.Views.{view_out}
use Rattle.wt_checks.specs.declared.visit.Visit.{Visit}
use Rattle.wt_checks.specs.Places.{Place, number, Condition, first_after}
use Rattle.wt_checks.specs.View.{seen, all_seen}

pub number_seen : (v : Visit) → number (seen v) ≡ (out-Node v.node.now).id
number_seen v = rw (view_out v.node.now)

pub if_true : {A : Type 0} (b : Bool) (x y : A) → b ≡ true → (if b then x else y) ≡ x
if_true b x y e = rw e

pub if_false : {A : Type 0} (b : Bool) (x y : A) → b ≡ false → (if b then x else y) ≡ y
if_false b x y e = rw e

-- the list before and from place i on
pub split_turn : (C : Condition) (vs : List Visit) (i : ℕ) (v : Visit) → i < length vs → v ≡ get_or vs i v
    → first_after C (all_seen (take i vs)) (all_seen (drop i vs))
    ≡ (if C (all_seen (take i vs)) (seen v) (all_seen (drop (i + 1) vs)) then Some (number (seen v)) else
    first_after C (all_seen (take (i + 1) vs)) (all_seen (drop (i + 1) vs)))
split_turn C vs i v lt is =
    let d : all_seen (drop i vs) ≡ seen v ∷ all_seen (drop (i + 1) vs) = ap all_seen (drop_more vs i v lt ∙ ap (λ (x : Visit). x ∷ drop (i + 1) vs) (sym is)) in
    let t : all_seen (take (i + 1) vs) ≡ all_seen (take i vs) ++ seen v ∷ [] =
    ap all_seen (take_more vs i v lt ∙ ap (λ (x : Visit). take i vs ++ x ∷ []) (sym is)) ∙ map-append seen (take i vs) (v ∷ []) in
    ap (λ (ps : List Place). first_after C (all_seen (take i vs)) ps) d
    ∙ ap (λ (ps : List Place). if C (all_seen (take i vs)) (seen v) (all_seen (drop (i + 1) vs)) then Some (number (seen v)) else
    first_after C ps (all_seen (drop (i + 1) vs))) (sym t)

-- it holds there
pub first_here : (C : Condition) (vs : List Visit) (i : ℕ) (v : Visit) → i < length vs → v ≡ get_or vs i v
    → C (all_seen (take i vs)) (seen v) (all_seen (drop (i + 1) vs)) ≡ true
    → first_after C (all_seen (take i vs)) (all_seen (drop i vs)) ≡ Some (out-Node v.node.now).id
first_here C vs i v lt is e =
    split_turn C vs i v lt is ∙ if_true (C (all_seen (take i vs)) (seen v) (all_seen (drop (i + 1) vs))) (Some (number (seen v)))
    (first_after C (all_seen (take (i + 1) vs)) (all_seen (drop (i + 1) vs))) e ∙ ap Some (number_seen v)

-- it doesn't
pub first_later : (C : Condition) (vs : List Visit) (i : ℕ) (v : Visit) → i < length vs → v ≡ get_or vs i v
    → C (all_seen (take i vs)) (seen v) (all_seen (drop (i + 1) vs)) ≡ false
    → first_after C (all_seen (take i vs)) (all_seen (drop i vs)) ≡ first_after C (all_seen (take (i + 1) vs)) (all_seen (drop (i + 1) vs))
first_later C vs i v lt is e =
    split_turn C vs i v lt is ∙ if_false (C (all_seen (take i vs)) (seen v) (all_seen (drop (i + 1) vs))) (Some (number (seen v)))
    (first_after C (all_seen (take (i + 1) vs)) (all_seen (drop (i + 1) vs))) e

-- and nowhere
pub first_nowhere : (C : Condition) (vs : List Visit) (i : ℕ) → length vs ≤ i → first_after C (all_seen (take i vs)) (all_seen (drop i vs)) ≡ None
first_nowhere C vs i le = ap (λ (xs : List Visit). first_after C (all_seen (take i vs)) (all_seen xs)) (drop_all i vs le)
