-- A page in sections, in which nothing but its sections is new.
use Rattle.std.specs.Prelude.{◌≡◌, true, false}
use Rattle.wt_tree.specs.Kinds.{is_section}
use Rattle.wt_tree.specs.Tree.{Tree, tree, Trees, none, more, label}
use Rattle.wt_checks.specs.Kept.{children}
use Rattle.wt_checks.specs.Places.{is_content}

-- the sections among these trees, and those in them, have no number and aren't marked `content`
abbrev mutual
  pub IsBareSection : Tree → Type 0
  IsBareSection (tree l ts) = is_section l.kind ≡ true → (l.id ≡ 0) × (is_content l.mark ≡ false) × AreBareSections ts

  pub AreBareSections : Trees → Type 0
  AreBareSections none = Unit {0}
  AreBareSections (more t ts) = IsBareSection t × AreBareSections ts

-- the body and its sections have no number, and no section is marked `content`
pub record HasBareSections (page : Tree) : Type 0 where
  pub root : (label page).id ≡ 0
  pub sections : AreBareSections (children page)
