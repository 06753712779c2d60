-- Where the rows of a node are among those of a tree that holds it.
use Rattle.std.specs.Prelude.{◌≡◌, ℕ, List, ◌++◌, Option}
use Rattle.wt_tree.specs.declared.kind.Kind.{Kind}
use Rattle.wt_tree.specs.declared.kind.Ranges.{Ranges}
use Rattle.wt_tree.specs.Tree.{Label, Tree, tree, Trees}
use Rattle.wt_tree.specs.Look.{rows}

-- what a row tells of a label
abbrev pub row_of : Label → ℕ × Kind × Option Ranges
row_of l = (l.id, l.kind, l.ranges)

-- the children of a tree
abbrev pub children : Tree → Trees
children (tree l ts) = ts

-- the rows of one tree are in those of another, all together and in their order
pub record StandTogether (part whole : Tree) : Type 0 where
  pub before : List (ℕ × Kind × Option Ranges)
  pub behind : List (ℕ × Kind × Option Ranges)
  pub rows : rows whole ≡ before ++ (rows part ++ behind)
