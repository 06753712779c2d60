-- A text edit: what somebody types round nodes of the page that nobody touched.
use Rattle.std.specs.Prelude.{◌≡◌, ℕ, Bool, true, false, Option, None, Some, List}
use Rattle.wt_tree.specs.Plain.{plain}
use Rattle.wt_tree.specs.Tiling.{HasNoGroup}
use Rattle.wt_tree.specs.Tree.{Tree, tree, Trees, none, more, label}
use Rattle.wt_tree.specs.declared.edit_shape.InlineForm.{InlineForm}
use Rattle.wt_tree.specs.declared.edit_shape.InlineForm.TheVariants as inline
use Rattle.wt_tree.specs.EditShapes.{edit_shape}
use Rattle.wt_original.specs.Kept.{Kept, kept_nodes, kept_with}
use Rattle.wt_content.specs.Content.{has_break}

-- the page's node with its number is of its kind and has its plain view
pub record IsUntouched (old t : Tree) : Type 0 where
  pub kept : Kept
  pub found : kept_with (label t).id (kept_nodes old) ≡ Some kept
  pub kind : (label t).kind ≡ (label kept.node).kind
  pub shown : plain t ≡ plain kept.node

-- directly in a paragraph a text may have line breaks
abbrev pub MayStand : Bool → List ℕ → Type 0
MayStand true text = Unit {0}
MayStand false text = has_break text ≡ false

-- all but line breaks and what is as it was
abbrev pub may_change : InlineForm → Bool
may_change inline.Nothing = true
may_change inline.Characters = true
may_change inline.Bold = true
may_change inline.Italic = true
may_change inline.Shown = true
may_change inline.PageLink = true
may_change inline.ExternalLink = true
may_change inline.Tag = true
may_change inline.Break = false
may_change inline.AsItStood = false

-- it takes the place of no node that may not change: the page has none with its number, or one that may
abbrev pub TakesNoPlace : Option Kept → Type 0
TakesNoPlace None = Unit {0}
TakesNoPlace (Some k) = may_change (edit_shape (label k.node).kind).inline ≡ true

-- White space between elements; a text; bold and italic that hold such; and every other node untouched and without groups.
abbrev pub IsTypedBy : InlineForm → Bool → List ℕ → Type 0 → Type 0 → Type 0 → Type 0
IsTypedBy inline.Nothing in_paragraph text inside free untouched = Unit {0}
IsTypedBy inline.Characters in_paragraph text inside free untouched = MayStand in_paragraph text
IsTypedBy inline.Bold in_paragraph text inside free untouched = inside × free
IsTypedBy inline.Italic in_paragraph text inside free untouched = inside × free
IsTypedBy inline.Shown in_paragraph text inside free untouched = untouched
IsTypedBy inline.PageLink in_paragraph text inside free untouched = untouched
IsTypedBy inline.ExternalLink in_paragraph text inside free untouched = untouched
IsTypedBy inline.Tag in_paragraph text inside free untouched = untouched
IsTypedBy inline.Break in_paragraph text inside free untouched = untouched
IsTypedBy inline.AsItStood in_paragraph text inside free untouched = untouched

-- the content of an edited block, which is `old` in the page
abbrev mutual
  pub IsTyped : Tree → Bool → Tree → Type 0
  IsTyped old in_paragraph (tree l ts) =
      IsTypedBy (edit_shape l.kind).inline in_paragraph l.shown (AreTyped old false ts) (TakesNoPlace (kept_with l.id (kept_nodes old)))
      (IsUntouched old (tree l ts) × HasNoGroup (tree l ts))

  pub AreTyped : Tree → Bool → Trees → Type 0
  AreTyped old in_paragraph none = Unit {0}
  AreTyped old in_paragraph (more t ts) = IsTyped old in_paragraph t × AreTyped old in_paragraph ts
