-- What the laws of groups speak of: the nodes that are reached, which are all but those in groups, and the cuts at their ends.
use Rattle.std.specs.Prelude.{◌≡◌, ℕ, ◌+◌, true, false, List, [], ◌∷◌, ◌++◌, length, if◌then◌else◌}
use Rattle.std.specs.List.{AllByRecursion}
use Rattle.wt_tree.specs.Kinds.{is_leaf}
use Rattle.wt_tree.specs.Tree.{Tree, tree, Trees, none, more}
use Rattle.wt_tree.specs.Tiling.{is_group}
use Rattle.wt_span.specs.Items.{Item}
use Rattle.wt_span.specs.Cuts.{is_free}
use Rattle.wt_inline.specs.ItemTree.{ItemTrees, nothing, further, tree_items}
use Rattle.wt_annotated.specs.Slices.{IsSlice}
use Rattle.wt_annotated.specs.Clean.{is_clean}
use Rattle.wt_annotated.specs.Grouped.{Grouped, kept, group, GroupedAll, ended, along}
use Rattle.wt_annotated.specs.GroupParts.{Begun, begun}

-- the nodes of a tree in preorder, without those in groups
abbrev mutual
  pub reached : Tree → List Tree
  reached (tree l ts) = tree l ts ∷ (if is_group l.kind then [] else reached_in_all ts)

  pub reached_in_all : Trees → List Tree
  reached_in_all none = []
  reached_in_all (more t ts) = reached t ++ reached_in_all ts

-- the range of each node that is reached is a slice of the page
abbrev pub AreReachedSlices : List ℕ → Tree → Type 0
AreReachedSlices page t = AllByRecursion (IsSlice page) (reached t)

-- ---- by cuts

-- the items after the start of a node or group and up to its end
abbrev pub start_of : Grouped → ℕ
start_of (kept h n o i c gs) = n
start_of (group n k ts) = n

abbrev pub size_of : Grouped → ℕ
size_of (kept h n o i c gs) = o + i + c
size_of (group n k ts) = k

-- The four places of each node that is kept, and both ends of each group, are free cuts.
abbrev mutual
  pub AtFreeCuts : List Item → Grouped → Type 0
  AtFreeCuts all (kept h n o i c gs) =
      (is_free all n ≡ true) × (is_free all (n + o) ≡ true) × (is_free all (n + o + i) ≡ true)
      × (is_free all (n + o + i + c) ≡ true) × AllAtFreeCuts all gs
  AtFreeCuts all (group n k ts) = (is_free all n ≡ true) × (is_free all (n + k) ≡ true)

  pub AllAtFreeCuts : List Item → GroupedAll → Type 0
  AllAtFreeCuts all ended = Unit {0}
  AllAtFreeCuts all (along g gs) = AtFreeCuts all g × AllAtFreeCuts all gs

-- The children of each node follow one another and fill its inside.
abbrev mutual
  pub Fills : Grouped → Type 0
  Fills (kept h n o i c gs) = FillFrom gs (n + o) (n + o + i)
  Fills (group n k ts) = Unit {0}

  pub FillFrom : GroupedAll → ℕ → ℕ → Type 0
  FillFrom ended from to = from ≡ to
  FillFrom (along g gs) from to = (start_of g ≡ from) × Fills g × FillFrom gs (start_of g + size_of g) to

-- the calls that begin in groups, group after group
abbrev mutual
  pub calls_in_groups : List Item → Grouped → List Begun
  calls_in_groups all (kept h n o i c gs) = if is_leaf h.kind then [] else calls_in_all_groups all gs
  calls_in_groups all (group n k ts) = begun all n k

  pub calls_in_all_groups : List Item → GroupedAll → List Begun
  calls_in_all_groups all ended = []
  calls_in_all_groups all (along g gs) = calls_in_groups all g ++ calls_in_all_groups all gs

-- ---- the smallest groups

-- no cut between neighbours is free; `n` items come before them
abbrev pub NoFreeCut : List Item → ℕ → ItemTrees → Type 0
NoFreeCut all n nothing = Unit {0}
NoFreeCut all n (further t nothing) = Unit {0}
NoFreeCut all n (further t (further u ts)) =
    (is_free all (n + length (tree_items t)) ≡ false) × NoFreeCut all (n + length (tree_items t)) (further u ts)

-- a group holds one unclean node, or more between which no cut is free
abbrev pub IsGroup : List Item → ℕ → ItemTrees → Type 0
IsGroup all n nothing = ⊥
IsGroup all n (further t nothing) = is_clean all n t ≡ false
IsGroup all n (further t (further u ts)) = NoFreeCut all n (further t (further u ts))

abbrev mutual
  pub AreSmallest : List Item → Grouped → Type 0
  AreSmallest all (kept h n o i c gs) = AllSmallest all gs
  AreSmallest all (group n k ts) = IsGroup all n ts

  pub AllSmallest : List Item → GroupedAll → Type 0
  AllSmallest all ended = Unit {0}
  AllSmallest all (along g gs) = AreSmallest all g × AllSmallest all gs
