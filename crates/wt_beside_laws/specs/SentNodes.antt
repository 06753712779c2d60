-- Nodes that are sent as they are in the page, with texts between them: by their numbers.
use Rattle.std.specs.Prelude.{◌≡◌, ℕ, true, Some, List, [], ◌∷◌}
use Rattle.wt_tree.specs.Tree.{Label, tree, Trees, none, more}
use Rattle.wt_tree.specs.EditShapes.{edit_shape}
use Rattle.wt_tree.specs.declared.edit_shape.InlineForm.{InlineForm}
use Rattle.wt_tree.specs.declared.edit_shape.InlineForm.TheVariants as inline
use Rattle.wt_original.specs.Kept.{Kept, kept_with}
use Rattle.wt_original.specs.Page.{Page, is_unchanged}

-- the page has a node with its number, of the same kind and with the same plain view
pub record IsUnchanged (p : Page) (l : Label) (ts : Trees) : Type 0 where
  pub kept : Kept
  pub found : kept_with l.id p.kept ≡ Some kept
  pub same : is_unchanged p kept (tree l ts) ≡ true

-- By the inline form of its kind: a separator or text is of any kind, a node is unchanged, and no style is among them.
abbrev pub IsSentBy : InlineForm → Page → Label → Trees → Type 0
IsSentBy inline.Nothing p l ts = Unit {0}
IsSentBy inline.Characters p l ts = Unit {0}
IsSentBy inline.Bold p l ts = ⊥
IsSentBy inline.Italic p l ts = ⊥
IsSentBy inline.Shown p l ts = IsUnchanged p l ts
IsSentBy inline.PageLink p l ts = IsUnchanged p l ts
IsSentBy inline.ExternalLink p l ts = IsUnchanged p l ts
IsSentBy inline.Tag p l ts = IsUnchanged p l ts
IsSentBy inline.Break p l ts = IsUnchanged p l ts
IsSentBy inline.AsItStood p l ts = IsUnchanged p l ts

abbrev pub AreSent : Page → Trees → Type 0
AreSent p none = Unit {0}
AreSent p (more (tree l ts) us) = IsSentBy (edit_shape l.kind).inline p l ts × AreSent p us

-- the number of a node, and none of a text
abbrev pub number_by : InlineForm → ℕ → List ℕ → List ℕ
number_by inline.Nothing n ns = ns
number_by inline.Characters n ns = ns
number_by inline.Bold n ns = n ∷ ns
number_by inline.Italic n ns = n ∷ ns
number_by inline.Shown n ns = n ∷ ns
number_by inline.PageLink n ns = n ∷ ns
number_by inline.ExternalLink n ns = n ∷ ns
number_by inline.Tag n ns = n ∷ ns
number_by inline.Break n ns = n ∷ ns
number_by inline.AsItStood n ns = n ∷ ns

-- the numbers of the nodes in their order
abbrev pub numbers : Trees → List ℕ
numbers none = []
numbers (more (tree l ts) us) = number_by (edit_shape l.kind).inline l.id (numbers us)
