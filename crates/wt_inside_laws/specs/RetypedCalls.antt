-- A retyped paragraph or heading of the page that holds calls: its node in the page's tree, and what is beside the calls in it.
use Rattle.std.specs.Prelude.{◌≡◌, ◌⊎◌, ◌<◌, ℕ, false, List, length}
use Rattle.wt_tree.specs.declared.edit_shape.InlineForm.{InlineForm}
use Rattle.wt_tree.specs.declared.edit_shape.InlineForm.TheVariants as inline
use Rattle.wt_tree.specs.EditShapes.{edit_shape}
use Rattle.wt_tree.specs.Source.{flat}
use Rattle.wt_tree.specs.Tiling.{is_group}
use Rattle.wt_tree.specs.Tree.{Label, Tree, tree, Trees, none, more}
use Rattle.wt_span.specs.Origins.{OuterCall}
use Rattle.wt_annotated.specs.CutTexts.{cut_texts}
use Rattle.wt_link_spelling.specs.Spelling.{children_of}
use Rattle.wt_expand.specs.Work.{Pages}
use Rattle.wt_part_laws.specs.Expanded.{part_items}
use Rattle.wt_part_laws.specs.HeldCalls.{block_in}
use Rattle.wt_text_edit_laws.specs.TextBlocks.{TextBlock, a_paragraph, a_heading}
use Rattle.wt_called_edit_laws.specs.CalledContents.{tree_round}
use Rattle.wt_called_edit_laws.specs.CalledEdits.{IsBesideCalls}
use Rattle.wt_called_edit_laws.specs.SentAsIs.{HaveNumberedGroups}
use Rattle.wt_called_edit_laws.specs.Settled.{settled}
use Rattle.wt_called_edit_laws.specs.StyledCallEdits.{IsBesideStyles}

-- ---- its texts

-- a text shows its source, and something; there are no separators
abbrev pub OwnTextBy : InlineForm → Label → Trees → Type 0
OwnTextBy inline.Nothing l ts = ⊥
OwnTextBy inline.Characters l ts = (flat (tree l ts) ≡ l.shown) × (0 < length l.shown)
OwnTextBy inline.Bold l ts = Unit {0}
OwnTextBy inline.Italic l ts = Unit {0}
OwnTextBy inline.Shown l ts = Unit {0}
OwnTextBy inline.PageLink l ts = Unit {0}
OwnTextBy inline.ExternalLink l ts = Unit {0}
OwnTextBy inline.Tag l ts = Unit {0}
OwnTextBy inline.Break l ts = Unit {0}
OwnTextBy inline.AsItStood l ts = Unit {0}

abbrev pub AreOwnTexts : Trees → Type 0
AreOwnTexts none = Unit {0}
AreOwnTexts (more (tree l ts) us) = OwnTextBy (edit_shape l.kind).inline l ts × AreOwnTexts us

-- ---- what is beside the calls

-- a text, bold or italic, or another node that is no group
abbrev pub UncalledBy : InlineForm → Label → Type 0
UncalledBy inline.Nothing l = ⊥
UncalledBy inline.Characters l = Unit {0}
UncalledBy inline.Bold l = Unit {0}
UncalledBy inline.Italic l = Unit {0}
UncalledBy inline.Shown l = is_group l.kind ≡ false
UncalledBy inline.PageLink l = is_group l.kind ≡ false
UncalledBy inline.ExternalLink l = is_group l.kind ≡ false
UncalledBy inline.Tag l = is_group l.kind ≡ false
UncalledBy inline.Break l = is_group l.kind ≡ false
UncalledBy inline.AsItStood l = is_group l.kind ≡ false

-- one of these is
abbrev pub HasUncalledChild : Trees → Type 0
HasUncalledChild none = ⊥
HasUncalledChild (more (tree l ts) us) = UncalledBy (edit_shape l.kind).inline l ⊎ HasUncalledChild us

-- of a paragraph; in a heading may be calls alone
abbrev pub HoldsUncalled : TextBlock → Tree → Type 0
HoldsUncalled a_paragraph t = AreOwnTexts (children_of t) × HasUncalledChild (children_of t)
HoldsUncalled (a_heading s) t = Unit {0}

-- ---- the block

-- It is this paragraph or heading, with the number and at the place that it has in the page, where so many calls come before it. Its groups have numbers,
-- and something in a paragraph is no call.
pub record IsCallingNode (pages : Pages) (k : TextBlock) (q : List ℕ) (t : Tree) : Type 0 where
  pub number : ℕ
  pub at : ℕ
  pub before : ℕ
  pub calls : List OuterCall
  pub some : 0 < number
  pub is : t ≡ settled number at (cut_texts (block_in calls (tree_round k (part_items pages before q))))
  pub groups : HaveNumberedGroups (children_of t)
  pub uncalled : HoldsUncalled k t

-- texts may be typed beside its calls, where no bold and no italic is in it, or with these
abbrev pub IsBeside : Pages → TextBlock → List ℕ → Tree → Type 0
IsBeside pages k q t = IsBesideCalls pages k q t ⊎ IsBesideStyles pages k q t
