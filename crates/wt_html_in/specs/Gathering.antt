-- Nodes are gathered one after another: a node by itself, a group with its first node, or a node into
-- the group before it.
use Rattle.std.specs.Prelude.{Option, Some, None}
use Rattle.wt_tree.specs.Tree.{Tree, tree, Trees, none, more}
use Rattle.wt_recut.specs.Recutting.{appended}
use Rattle.wt_schema.specs.Groups.{Piece, single, begun, further}

abbrev pub with_child : Tree → Tree → Tree
with_child (tree l ts) t = tree l (appended ts (more t none))

-- into the last one, where there is one
abbrev pub into_last : Trees → Tree → Trees
into_last none t = none
into_last (more u none) t = more (with_child u t) none
into_last (more u (more v ts)) t = more u (into_last (more v ts) t)

abbrev pub gathered_with : Trees → Option Piece → Trees
gathered_with ts None = ts
gathered_with ts (Some (single t)) = appended ts (more t none)
gathered_with ts (Some (begun l t)) = appended ts (more (tree l (more t none)) none)
gathered_with ts (Some (further t)) = into_last ts t
