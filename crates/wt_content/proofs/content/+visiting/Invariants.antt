use Rattle.std.proofs.Common.{Bool, List, ◌++◌, take}
use Rattle.std.specs.List.{flat_map}
use Rattle.wt_tree.specs.Tree.{Tree}
use Rattle.wt_tree.specs.View.{view}
use Rattle.wt_original.specs.Page.{TellsSame}
use Rattle.wt_original.specs.PageViews.{page_view}
use Rattle.wt_content.specs.declared.reason.ContentWhy.{ContentWhy}
use Rattle.wt_content.specs.Content.{faults}
use Rattle.wt_content.specs.Views.{HasFaults}
use Rattle.wt_content.proofs.content.+visiting.Given as goal

abbrev pub invariant-visit_all-loop-node : goal.invariant-visit_all-loop-node
invariant-visit_all-loop-node l =
    (same : Tree → Tree → Bool) → TellsSame same → (ws : List ContentWhy) → HasFaults l.fn.found ws
    → HasFaults l.found (ws ++ flat_map (λ n. faults (page_view same l.page) l.around (view n)) (take l.node-index l.nodes))
