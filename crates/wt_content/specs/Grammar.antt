-- What may be in the content of a marked node, as a grammar: text; the block's own nodes as they were; new and changed bold,
-- italic and links; new line breaks; changed tags and entities; nested at will, but no link inside a link.
use Rattle.std.specs.Prelude.{◌≡◌, ◌⊎◌, Bool, true, false, is_some}
use Rattle.wt_names.specs.Written.{read_link}
use Rattle.wt_tree.specs.Tree.{Label, Tree, tree, Trees, none, more}
use Rattle.wt_tree.specs.declared.edit_shape.InlineForm.{InlineForm}
use Rattle.wt_tree.specs.declared.edit_shape.InlineForm.TheVariants as inline
use Rattle.wt_tree.specs.EditShapes.{edit_shape}
use Rattle.wt_original.specs.Page.{Page}
use Rattle.wt_link_spelling.specs.Spelling.{href_of}
use Rattle.wt_content.specs.declared.content.Surroundings.{Surroundings}
use Rattle.wt_content.specs.declared.content.Standing.{Standing}
use Rattle.wt_content.specs.declared.content.Standing.TheVariants as stands
use Rattle.wt_content.specs.Content.{below, has_break, holds_link, is_url, standing}
use Rattle.wt_content.specs.Typed.{MayStand}

-- it is new, or is in the place of a node of the page that may be changed
abbrev pub IsWritten : Standing → Type 0
IsWritten stands.New = Unit {0}
IsWritten stands.Changed = Unit {0}
IsWritten stands.Replaced = ⊥
IsWritten stands.Same = ⊥

-- it takes the place of no node that may not be changed
abbrev pub LeavesFixed : Standing → Type 0
LeavesFixed stands.New = Unit {0}
LeavesFixed stands.Changed = Unit {0}
LeavesFixed stands.Replaced = ⊥
LeavesFixed stands.Same = Unit {0}

-- in a link it holds no link
abbrev pub IsApart : Surroundings → Bool → Type 0
IsApart x holds = x.in_link ≡ true → holds ≡ false

-- it is a node of the page as it was there
abbrev pub IsKept : Surroundings → Standing → Bool → Type 0
IsKept x s holds = (s ≡ stands.Same) × IsApart x holds

-- A link, which is in no link: as it was; or written anew, and it leads somewhere.
abbrev pub IsLinkOf : Surroundings → Standing → Type 0 → Type 0 → Type 0
IsLinkOf x s leads inside = (x.in_link ≡ false) × ((s ≡ stands.Same) ⊎ (IsWritten s × leads × inside))

-- By the inline form of the node's kind: white space between elements; text, which directly in a paragraph may have line
-- breaks; bold and italic; what an entity or a `nowiki` shows; links; tags; a line break; and all else. `holds` says whether a
-- link is in it, `inside` that what it holds is of the grammar.
abbrev pub IsContentBy : InlineForm → Surroundings → Standing → Label → Bool → Type 0 → Type 0
IsContentBy inline.Nothing x s l holds inside = IsApart x holds
IsContentBy inline.Characters x s l holds inside = MayStand x.in_paragraph l.shown × IsApart x holds
IsContentBy inline.Bold x s l holds inside = LeavesFixed s × inside
IsContentBy inline.Italic x s l holds inside = LeavesFixed s × inside
IsContentBy inline.Shown x s l holds inside = IsKept x s holds ⊎ ((s ≡ stands.Changed) × (has_break l.shown ≡ false) × inside)
IsContentBy inline.PageLink x s l holds inside = IsLinkOf x s (is_some (read_link (href_of l)) ≡ true) inside
IsContentBy inline.ExternalLink x s l holds inside = IsLinkOf x s (is_url (href_of l) ≡ true) inside
IsContentBy inline.Tag x s l holds inside = IsKept x s holds ⊎ ((s ≡ stands.Changed) × inside)
IsContentBy inline.Break x s l holds inside = IsKept x s holds ⊎ ((s ≡ stands.New) × inside)
IsContentBy inline.AsItStood x s l holds inside = IsKept x s holds

abbrev mutual
  pub IsContent : Page → Surroundings → Tree → Type 0
  IsContent p x (tree l ts) =
      IsContentBy (edit_shape l.kind).inline x (standing p (tree l ts)) l (holds_link (tree l ts)) (AreContent p (below x (edit_shape l.kind).inline) ts)

  pub AreContent : Page → Surroundings → Trees → Type 0
  AreContent p x none = Unit {0}
  AreContent p x (more t ts) = IsContent p x t × AreContent p x ts
