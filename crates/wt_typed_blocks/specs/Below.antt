-- What is in a tree, and what of it is in no leaf.
use Rattle.std.specs.Prelude.{◌≡◌, true, List, [], ◌∷◌, ◌++◌, if◌then◌else◌}
use Rattle.std.specs.List.{AllByRecursion}
use Rattle.wt_tree.specs.Kinds.{is_leaf}
use Rattle.wt_tree.specs.Tree.{Tree, tree, Trees, none, more, label, subtrees_of_all}

-- if this node is a leaf, no node below it has a number
abbrev pub IsUnnumberedInside : Tree → Type 0
IsUnnumberedInside (tree l ts) = is_leaf l.kind ≡ true → AllByRecursion (λ u. (label u).id ≡ 0) (subtrees_of_all ts)

-- a node and those below it that are in no leaf
abbrev mutual
  pub outside_leaves : Tree → List Tree
  outside_leaves (tree l ts) = tree l ts ∷ (if is_leaf l.kind then [] else all_outside_leaves ts)

  pub all_outside_leaves : Trees → List Tree
  all_outside_leaves none = []
  all_outside_leaves (more t ts) = outside_leaves t ++ all_outside_leaves ts

-- those below it
abbrev pub below : Tree → List Tree
below (tree l ts) = if is_leaf l.kind then [] else all_outside_leaves ts
