-- A text edit round groups: only texts differ, directly in the block or in its bold and italic; every other node is the page's, and
-- among these are groups, and nodes that hold groups.
use Rattle.std.specs.Prelude.{◌≡◌, Bool, false, Some}
use Rattle.wt_tree.specs.Plain.{plain}
use Rattle.wt_tree.specs.Tiling.{is_group}
use Rattle.wt_tree.specs.Tree.{Tree, tree, Trees, none, more, label}
use Rattle.wt_tree.specs.EditShapes.{edit_shape}
use Rattle.wt_original.specs.Kept.{Kept, kept_nodes, kept_with}
use Rattle.wt_original.specs.Page.{restored}
use Rattle.wt_content.specs.Typed.{IsTypedBy, TakesNoPlace}

-- The page has a node of its kind with its number. A group is this one whatever it shows; any other node has its plain view,
-- where each group in it shows what the page's shows.
pub record IsAsItWas (old t : Tree) : Type 0 where
  pub kept : Kept
  pub found : kept_with (label t).id (kept_nodes old) ≡ Some kept
  pub kind : (label t).kind ≡ (label kept.node).kind
  pub shown : is_group (label t).kind ≡ false → plain (restored (kept_nodes old) t) ≡ plain kept.node

-- the content of an edited block, which is `old` in the page
abbrev mutual
  pub IsTextEdit : Tree → Bool → Tree → Type 0
  IsTextEdit old in_paragraph (tree l ts) =
      IsTypedBy (edit_shape l.kind).inline in_paragraph l.shown (AreTextEdits old false ts) (TakesNoPlace (kept_with l.id (kept_nodes old))) (IsAsItWas old (tree l ts))

  pub AreTextEdits : Tree → Bool → Trees → Type 0
  AreTextEdits old in_paragraph none = Unit {0}
  AreTextEdits old in_paragraph (more t ts) = IsTextEdit old in_paragraph t × AreTextEdits old in_paragraph ts
