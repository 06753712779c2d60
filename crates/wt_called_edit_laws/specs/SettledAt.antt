-- Nodes at paths of a page's tree, each with the number and at the place that the rest of the page leaves it.
use Rattle.std.specs.Prelude.{◌≡◌, ◌<◌, ℕ, zero, suc, List, [], ◌∷◌}
use Rattle.wt_tree.specs.Tree.{Tree, tree, Trees, none, more}
use Rattle.wt_expand.specs.Work.{Pages}
use Rattle.wt_text_edit_laws.specs.BlockSpots.{BlockSpot}
use Rattle.wt_called_edit_laws.specs.CalledBlocks.{counted}
use Rattle.wt_called_edit_laws.specs.CalledTexts.{spots_tree}
use Rattle.wt_called_edit_laws.specs.CallingGroups.{block_with_groups}
use Rattle.wt_called_edit_laws.specs.Settled.{settled}

-- the node is this one, with a number and at some place
pub record IsSettledAt (v t : Tree) : Type 0 where
  pub number : ℕ
  pub at : ℕ
  pub some : 0 < number
  pub is : t ≡ settled number at v

-- so it is at this path
abbrev mutual
  pub SettledTo : Tree → List ℕ → Tree → Type 0
  SettledTo v [] t = IsSettledAt v t
  SettledTo v (i ∷ is) (tree l ts) = SettledAmong v i is ts

  pub SettledAmong : Tree → ℕ → List ℕ → Trees → Type 0
  SettledAmong v i is none = ⊥
  SettledAmong v zero is (more t ts) = SettledTo v is t
  SettledAmong v (suc i) is (more t ts) = SettledAmong v i is ts

-- at each of these paths the node with this number
abbrev pub AllSettled : (ℕ → Tree) → List ℕ → List (List ℕ) → Tree → Type 0
AllSettled b [] [] t = Unit {0}
AllSettled b [] (p ∷ ps) t = ⊥
AllSettled b (n ∷ ns) [] t = ⊥
AllSettled b (n ∷ ns) (p ∷ ps) t = SettledTo (b n) p t × AllSettled b ns ps t

-- The blocks of a page, which may hold calls, are at paths of its tree: each with its groups.
pub record BlocksAtPaths (pages : Pages) (ss : List BlockSpot) (behind : List ℕ) : Type 0 where
  pub paths : List (List ℕ)
  pub settle : AllSettled (block_with_groups pages ss behind) (counted ss) paths (spots_tree pages ss behind)
