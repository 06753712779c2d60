-- What holds of each paragraph and each heading of a tree outside of groups: they are in tables and their parts only.
use Rattle.std.proofs.Common.{◌≡◌, Bool, true, false, refl}
use Rattle.wt_tree.specs.Kinds.{is_leaf}
use Rattle.wt_tree.specs.Tiling.{is_group}
use Rattle.wt_tree.specs.Tree.{Tree, tree, Trees, none, more}
use Rattle.wt_called_edit_laws.specs.Covered.{IfGroup}
use Rattle.wt_called_edit_laws.proofs.AllTold.Found.{Housing, a_block, a_shell, another, housing_of}

-- a block, a table or a part of one, or any other node
abbrev pub OfHousing : Housing → Type 0 → Type 0 → Type 0 → Type 0
OfHousing a_block own all neither = own
OfHousing a_shell own all neither = all
OfHousing another own all neither = neither

-- It holds of each paragraph and heading, and each of these is in tables and their parts only; a leaf holds nothing. Nothing is said of groups.
abbrev mutual
  pub EachBlock : (Tree → Type 0) → Tree → Type 0
  EachBlock Q (tree l ts) =
      IfGroup (is_group l.kind) (Unit {0}) ((is_leaf l.kind ≡ true → ts ≡ none)
      × OfHousing (housing_of l.kind) (Q (tree l ts) × EachBlockIn (λ (t : Tree). ⊥) ts) (EachBlockIn Q ts) (EachBlockIn (λ (t : Tree). ⊥) ts))

  pub EachBlockIn : (Tree → Type 0) → Trees → Type 0
  EachBlockIn Q none = Unit {0}
  EachBlockIn Q (more t ts) = EachBlock Q t × EachBlockIn Q ts

pub outside : (v : Bool) (A : Type 0) → v ≡ false → IfGroup v (Unit {0}) A → A
outside true A e h = let no : true ≡ false = e in absurd (cc)
outside false A e h = h

pub unless_group : (v : Bool) (A : Type 0) → (v ≡ false → A) → IfGroup v (Unit {0}) A
unless_group true A f = tt
unless_group false A f = f refl
