-- Numbers, given to a finished tree: they count the nodes that have one in preorder.
use Rattle.std.specs.Prelude.{ℕ, ◌+◌, if◌then◌else◌}
use Rattle.wt_tree.specs.declared.kind.Kind.{Kind}
use Rattle.wt_tree.specs.Kinds.{is_numbered}
use Rattle.wt_tree.specs.Tree.{Label, Tree, tree, Trees, none, more}
use Rattle.wt_tree.specs.Tiling.{is_group}

-- a node's number, where the next one is this; 0 where it has none
abbrev pub number_of : Kind → ℕ → ℕ
number_of k next = if is_numbered k then next else 0

abbrev pub next_after : Kind → ℕ → ℕ
next_after k next = if is_numbered k then next + 1 else next

-- How many nodes of a tree have a number; inside a group none has.
abbrev mutual
  pub count : Tree → ℕ
  count (tree l ts) = (if is_numbered l.kind then 1 else 0) + (if is_group l.kind then 0 else count_all ts)

  pub count_all : Trees → ℕ
  count_all none = 0
  count_all (more t ts) = count t + count_all ts

abbrev pub with_id : ℕ → Label → Label
with_id n l = record l { id = n }

-- The tree with its numbers, of which the first is this. The inside of a group is left as it is.
abbrev mutual
  pub with_numbers : ℕ → Tree → Tree
  with_numbers next (tree l ts) = tree (with_id (number_of l.kind next) l) (if is_group l.kind then ts else all_with_numbers (next_after l.kind next) ts)

  pub all_with_numbers : ℕ → Trees → Trees
  all_with_numbers next none = none
  all_with_numbers next (more t ts) = more (with_numbers next t) (all_with_numbers (next + count t) ts)
