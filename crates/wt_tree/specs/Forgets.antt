-- What the plain view does not see.
use Rattle.std.specs.Prelude.{◌≡◌}
use Rattle.wt_tree.specs.declared.kind.Showing.TheVariants.{Nothing}
use Rattle.wt_tree.specs.Kinds.{showing}
use Rattle.wt_tree.specs.Tree.{Label, Tree, label}

-- labels that may differ in number, ranges, delimiters, source, origin and mark alone
pub record LikeLabels (l m : Label) : Type 0 where
  pub kind : l.kind ≡ m.kind
  pub shown : l.shown ≡ m.shown
  pub attrs : l.attrs ≡ m.attrs
  pub mw : l.mw ≡ m.mw

-- a separator, a mark or a skip
abbrev pub ShowsNothing : Tree → Type 0
ShowsNothing t = showing (label t).kind ≡ Nothing
