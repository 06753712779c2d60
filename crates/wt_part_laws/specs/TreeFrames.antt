-- The annotated tree of a page with places in it, each with a number.
use Rattle.std.specs.Prelude.{ℕ, List, [], ◌∷◌, ◌++◌}
use Rattle.wt_tree.specs.Tree.{Label, Tree, tree, Trees, none, more}

mutual
  pub data TreeFrame : Type 0 where
    spot : ℕ → TreeFrame
    kept : Tree → TreeFrame
    holder : Label → TreeFrames → TreeFrame

  pub data TreeFrames : Type 0 where
    no_nodes : TreeFrames
    more_nodes : TreeFrame → TreeFrames → TreeFrames

-- with a tree at each place
abbrev mutual
  pub filled : (ℕ → Tree) → TreeFrame → Tree
  filled b (spot n) = b n
  filled b (kept t) = t
  filled b (holder l fs) = tree l (all_filled b fs)

  pub all_filled : (ℕ → Tree) → TreeFrames → Trees
  all_filled b no_nodes = none
  all_filled b (more_nodes f fs) = more (filled b f) (all_filled b fs)

-- the numbers of the places, in their order
abbrev mutual
  pub spots_in : TreeFrame → List ℕ
  spots_in (spot n) = n ∷ []
  spots_in (kept t) = []
  spots_in (holder l fs) = spots fs

  pub spots : TreeFrames → List ℕ
  spots no_nodes = []
  spots (more_nodes f fs) = spots_in f ++ spots fs
