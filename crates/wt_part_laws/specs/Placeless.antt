-- A tree without its numbers and places: what it is at any place.
use Rattle.std.specs.Prelude.{None, List, [], ◌∷◌}
use Rattle.wt_tree.specs.Tree.{Label, Tree, tree, Trees, none, more}
use Rattle.wt_inline.specs.ItemTree.{ItemTree}
use Rattle.wt_part_laws.specs.Standing.{standing}

abbrev pub placeless_label : Label → Label
placeless_label l = record l { id = 0; ranges = None }

abbrev mutual
  pub placeless : Tree → Tree
  placeless (tree l ts) = tree (placeless_label l) (all_placeless ts)

  pub all_placeless : Trees → Trees
  all_placeless none = none
  all_placeless (more t ts) = more (placeless t) (all_placeless ts)

-- nodes of a page without calls, each by itself
abbrev pub by_themselves : List ItemTree → Trees
by_themselves [] = none
by_themselves (t ∷ ts) = more (placeless (standing 0 [] t)) (by_themselves ts)
