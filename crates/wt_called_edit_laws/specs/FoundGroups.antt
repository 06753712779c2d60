-- The groups in a node of a block are nodes of it, found by their numbers.
use Rattle.std.specs.Prelude.{◌≡◌, Some, List}
use Rattle.wt_tree.specs.Tiling.{is_group}
use Rattle.wt_tree.specs.Tree.{Label, Tree, tree, Trees, none, more}
use Rattle.wt_original.specs.Kept.{Kept, kept_with}
use Rattle.wt_difference.specs.Unedited.{GroupOr}

-- the block's node with this number is this one
pub record IsFoundAs (ks : List Kept) (l : Label) (ts : Trees) : Type 0 where
  pub kept : Kept
  pub found : kept_with l.id ks ≡ Some kept
  pub node : kept.node ≡ tree l ts

-- so is each group, and each in what is no group
abbrev mutual
  pub HasFoundGroups : List Kept → Tree → Type 0
  HasFoundGroups ks (tree l ts) = GroupOr (is_group l.kind) (IsFoundAs ks l ts) (HaveFoundGroups ks ts)

  pub HaveFoundGroups : List Kept → Trees → Type 0
  HaveFoundGroups ks none = Unit {0}
  HaveFoundGroups ks (more t ts) = HasFoundGroups ks t × HaveFoundGroups ks ts
