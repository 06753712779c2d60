-- Which elements of a group are together: pieces among siblings, and the trees that they make.
use Rattle.std.specs.Prelude.{◌≡◌, Bool, true, false, List, [], ◌∷◌, ◌++◌, map}
use Rattle.wt_tree.specs.Tree.{Label, Tree, tree, Trees, none as no_trees, more as one_more}
use Rattle.wt_schema.specs.Groups.{Piece, single, begun, further}

abbrev pub trees : List Tree → Trees
trees [] = no_trees
trees (t ∷ ts) = one_more t (trees ts)

-- a further element of a group comes only after another element of a group
abbrev pub IsPlaced : Bool → List Piece → Type 0
IsPlaced open_group [] = Unit {0}
IsPlaced open_group (single t ∷ xs) = IsPlaced false xs
IsPlaced open_group (begun l t ∷ xs) = IsPlaced true xs
IsPlaced open_group (further t ∷ xs) = (open_group ≡ true) × IsPlaced true xs

abbrev pub BeginsAnew : List Piece → Type 0
BeginsAnew [] = Unit {0}
BeginsAnew (single t ∷ xs) = Unit {0}
BeginsAnew (begun l t ∷ xs) = Unit {0}
BeginsAnew (further t ∷ xs) = ⊥

-- A node by itself is a tree; the first element of a group and all further ones after it up to what isn't one are one tree.
pub data AreGathered : List Piece → Trees → Type 0 where
  nothing : AreGathered [] no_trees
  alone : (t : Tree) (xs : List Piece) (ts : Trees) → AreGathered xs ts → AreGathered (single t ∷ xs) (one_more t ts)
  together : (l : Label) (t : Tree) (us : List Tree) (xs : List Piece) (ts : Trees) → BeginsAnew xs → AreGathered xs ts
      → AreGathered (begun l t ∷ (map further us ++ xs)) (one_more (tree l (one_more t (trees us))) ts)
