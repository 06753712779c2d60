-- The source of a tree: the opening delimiter, the children's sources and the closing delimiter,
-- joined; of a leaf its own source, and of a group its slice of the page.
use Rattle.std.specs.Prelude.{ℕ, List, [], ◌++◌, if◌then◌else◌}
use Rattle.wt_tree.specs.Kinds.{is_leaf}
use Rattle.wt_tree.specs.Tree.{Tree, tree, Trees, none, more}

abbrev mutual
  pub flat : Tree → List ℕ
  flat (tree l ts) = if is_leaf l.kind then l.own else l.opening ++ flat_of_all ts ++ l.closing

  pub flat_of_all : Trees → List ℕ
  flat_of_all none = []
  flat_of_all (more t ts) = flat t ++ flat_of_all ts
