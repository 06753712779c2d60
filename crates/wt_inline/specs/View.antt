-- The head and the tree that a node of pieces stands for.
use Rattle.std.specs.Prelude.{List, map}
use Rattle.wt_span.specs.Items.{items}
use Rattle.wt_tree.specs.View.{attrs_of}
use Rattle.wt_inline.specs.ItemTree.{Head, ItemTree, inner, forest}
use Rattle.wt_inline.specs.declared.tree.NodeHead.{NodeHead}
use Rattle.wt_inline.specs.declared.tree.PieceTree.{PieceTree, PieceTree-F, fold-PieceTree}

abbrev pub head_of : NodeHead → Head
head_of h = record { kind = h.kind; shown = h.shown; attrs = attrs_of h.more.attrs; mw = h.more.mw }

abbrev pub view_step : PieceTree-F ItemTree → ItemTree
view_step n = inner (head_of n.head) (items n.opening) (forest n.children) (items n.closing)

abbrev pub item_tree : PieceTree → ItemTree
item_tree = fold-PieceTree ItemTree view_step

abbrev pub item_trees : List PieceTree → List ItemTree
item_trees ns = map item_tree ns
