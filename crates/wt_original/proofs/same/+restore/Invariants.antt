use Rattle.std.proofs.Common.{◌≡◌, ◌++◌, take}
use Rattle.std.specs.List.{flat_map}
use Rattle.wt_tree.specs.View.{view}
use Rattle.wt_tree.specs.Stream.{signs}
use Rattle.wt_original.specs.Page.{restored}
use Rattle.wt_original.specs.PageViews.{marks_of, kept_in}
use Rattle.wt_original.proofs.same.+restore.Given as goal

abbrev pub invariant-show_all_restored-loop-node : goal.invariant-show_all_restored-loop-node
invariant-show_all_restored-loop-node l =
    marks_of l.out.items ≡ marks_of l.initial.out.items ++ flat_map (λ n. signs (restored (kept_in l.page) (view n))) (take l.node-index l.nodes)
