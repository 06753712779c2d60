use Rattle.std.proofs.Common.{◌≡◌, take}
use Rattle.std.specs.List.{flat_map}
use Rattle.wt_span.specs.Items.{items}
use Rattle.wt_inline.specs.ItemTree.{tree_items}
use Rattle.wt_inline.specs.View.{item_tree}
use Rattle.wt_annotated.proofs.held.pieces_of_all.Given as goal

abbrev pub invariant-loop-tree : goal.invariant-loop-tree
invariant-loop-tree l = items l.out ≡ flat_map (λ n. tree_items (item_tree n)) (take l.tree-index l.trees)
