-- Where a tree has a number once, and what the node with it holds. Groups aren't looked into: what they show has no numbers.
use Rattle.std.specs.Prelude.{◌≡◌, ◌⊎◌, ◌==◌, ℕ, true, false}
use Rattle.wt_tree.specs.Kinds.{is_leaf}
use Rattle.wt_tree.specs.Tiling.{is_group}
use Rattle.wt_tree.specs.Tree.{Tree, tree, Trees, none, more}

-- no node has the number
abbrev mutual
  pub HasNot : ℕ → Tree → Type 0
  HasNot n (tree l ts) = ((l.id == n) ≡ false) × (is_group l.kind ≡ false → NoneHas n ts)

  pub NoneHas : ℕ → Trees → Type 0
  NoneHas n none = Unit {0}
  NoneHas n (more t ts) = HasNot n t × NoneHas n ts

-- One node has it, which is no leaf and holds this; those round it are no leaves and no groups.
abbrev mutual
  pub HasOnce : ℕ → Trees → Tree → Type 0
  HasOnce n inside (tree l ts) =
      (is_leaf l.kind ≡ false)
      × ((((l.id == n) ≡ true) × (ts ≡ inside)) ⊎ (((l.id == n) ≡ false) × (is_group l.kind ≡ false) × OneHas n inside ts))

  pub OneHas : ℕ → Trees → Trees → Type 0
  OneHas n inside none = ⊥
  OneHas n inside (more t ts) = (HasOnce n inside t × NoneHas n ts) ⊎ (HasNot n t × OneHas n inside ts)
