use Rattle.std.proofs.Common.{◌≡◌, ◌∷◌, ◌++◌, [], take}
use Rattle.std.specs.List.{flat_map}
use Rattle.wt_tree.specs.View.{view}
use Rattle.wt_checks.specs.Places.{placed}
use Rattle.wt_checks.specs.View.{all_seen}
use Rattle.wt_checks.proofs.visit.+push_visits.Given as goal

abbrev pub invariant-loop-child : goal.invariant-loop-child
invariant-loop-child l =
    all_seen l.out.items ≡ all_seen l.fn.out.items
    ++ (record { node = view l.node; parent = l.parent; in_content = l.in_content } ∷ [])
    ++ flat_map (λ n. placed l.below l.inside (view n)) (take l.child-index l.child-items)
