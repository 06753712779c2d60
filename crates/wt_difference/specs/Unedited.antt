-- An edited tree that is the page's own, in all that the difference looks at.
use Rattle.std.specs.Prelude.{◌≡◌, Bool, true, false}
use Rattle.wt_recut.specs.Recut.{any_shows_block}
use Rattle.wt_tree.specs.Tiling.{is_group}
use Rattle.wt_tree.specs.Tree.{Label, Tree, tree, Trees, none, more}

-- the same number, kind, attributes, data and characters
pub record SameLabel (l m : Label) : Type 0 where
  pub id : l.id ≡ m.id
  pub kind : l.kind ≡ m.kind
  pub attrs : l.attrs ≡ m.attrs
  pub mw : l.mw ≡ m.mw
  pub shown : l.shown ≡ m.shown

abbrev pub GroupOr : Bool → Type 0 → Type 0 → Type 0
GroupOr true A B = A
GroupOr false A B = B

-- Each node is as it was and holds what it held. Of two groups both show a block or neither does; what else
-- they hold isn't looked at.
abbrev mutual
  pub IsUnedited : Tree → Tree → Type 0
  IsUnedited (tree l ts) (tree m us) = SameLabel l m × GroupOr (is_group l.kind) (any_shows_block ts ≡ any_shows_block us) (AreUnedited ts us)

  pub AreUnedited : Trees → Trees → Type 0
  AreUnedited none none = Unit {0}
  AreUnedited none (more u us) = ⊥
  AreUnedited (more t ts) none = ⊥
  AreUnedited (more t ts) (more u us) = IsUnedited t u × AreUnedited ts us
