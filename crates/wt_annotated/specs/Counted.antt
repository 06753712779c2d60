-- How many nodes a tree over items has, and how many of them get a number where none is a group.
use Rattle.std.specs.Prelude.{ℕ, ◌+◌, Bool, true, false, if◌then◌else◌}
use Rattle.wt_tree.specs.Kinds.{is_leaf, is_numbered}
use Rattle.wt_inline.specs.ItemTree.{ItemTree, inner, ItemTrees, nothing, further}

abbrev mutual
  pub nodes : ItemTree → ℕ
  nodes (inner h opening ts closing) = 1 + nodes_of_all ts

  pub nodes_of_all : ItemTrees → ℕ
  nodes_of_all nothing = 0
  nodes_of_all (further t ts) = nodes t + nodes_of_all ts

-- ---- with a number

abbrev pub count_by : Bool → ℕ → ℕ
count_by true n = 0
count_by false n = n

abbrev mutual
  pub numbered : ItemTree → ℕ
  numbered (inner h opening ts closing) = (if is_numbered h.kind then 1 else 0) + count_by (is_leaf h.kind) (numbered_in_all ts)

  pub numbered_in_all : ItemTrees → ℕ
  numbered_in_all nothing = 0
  numbered_in_all (further t ts) = numbered t + numbered_in_all ts
