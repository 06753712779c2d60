-- The tree that a node stands for.
use Rattle.std.specs.Prelude.{List, map}
use Rattle.wt_blocks.specs.ListTree.{ListTree, node, forest}
use Rattle.wt_blocks.specs.declared.nest.ListNode.{ListNode, ListNode-F, fold-ListNode}

abbrev pub view_step : ListNode-F ListTree → ListTree
view_step n = node n.item n.sign n.line (forest n.children)

abbrev pub list_tree : ListNode → ListTree
list_tree = fold-ListNode ListTree view_step

abbrev pub list_trees : List ListNode → List ListTree
list_trees ns = map list_tree ns
