use Rattle.std.proofs.Common.{◌≡◌, ◌++◌, take}
use Rattle.std.specs.List.{flat_map}
use Rattle.wt_span.specs.Items.{items}
use Rattle.wt_inline.specs.ItemTree.{tree_items}
use Rattle.wt_inline.specs.View.{item_tree}
use Rattle.wt_inline.specs.declared.tree.PieceTree.{out-PieceTree}
use Rattle.wt_annotated.proofs.held.+push_held.Given as goal

abbrev pub invariant-loop-child : goal.invariant-loop-child
invariant-loop-child l = items l.out
    ≡ (items l.fn.out ++ items (out-PieceTree l.tree).opening) ++ flat_map (λ n. tree_items (item_tree n)) (take l.child-index l.child-items)
