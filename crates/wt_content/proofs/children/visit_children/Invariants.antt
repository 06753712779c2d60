use Rattle.std.proofs.Common.{Bool, List, ◌++◌, take}
use Rattle.std.specs.List.{flat_map}
use Rattle.wt_tree.specs.Tree.{Tree}
use Rattle.wt_tree.specs.View.{view}
use Rattle.wt_original.specs.Page.{TellsSame}
use Rattle.wt_content.specs.declared.reason.ContentWhy.{ContentWhy}
use Rattle.wt_content.specs.Children.{child_faults}
use Rattle.wt_content.specs.Views.{HasFaults}
use Rattle.wt_content.proofs.children.visit_children.Given as goal

abbrev pub invariant-loop-node : goal.invariant-loop-node
invariant-loop-node l =
    (same : Tree → Tree → Bool) → TellsSame same → (ws : List ContentWhy) → HasFaults l.fn.found ws
    → HasFaults l.found (ws ++ flat_map (λ n. child_faults same l.holder (view n)) (take l.node-index l.nodes))
