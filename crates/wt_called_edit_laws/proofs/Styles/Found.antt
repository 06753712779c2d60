-- The nodes of a block, those in bold and italic among them, are found by their numbers.
use Rattle.std.proofs.Common.{◌≡◌, ◌<◌, ℕ, ◌+◌, true, false, not, List, length, refl}
use Rattle.std.specs.Prelude.{◌&&◌}
use Rattle.wt_tree.specs.EditShapes.{edit_shape}
use Rattle.wt_tree.specs.Kinds.{is_leaf}
use Rattle.wt_tree.specs.Source.{flat}
use Rattle.wt_tree.specs.Tree.{Label, Tree, Trees, label, more, none, tree}
use Rattle.wt_tree.specs.declared.edit_shape.InlineForm.{InlineForm}
use Rattle.wt_tree.specs.declared.edit_shape.InlineForm.TheVariants as inline
use Rattle.wt_tree.specs.declared.kind.Kind.{Kind}
use Rattle.wt_tree.specs.declared.kind.Kind.TheVariants as kind
use Rattle.wt_original.specs.Kept.{Kept, found_from, found_in, is_delimited, items, kept_nodes, visible}
use Rattle.wt_original.specs.Numbers.{counts_up}
use Rattle.wt_link_spelling.specs.Spelling.{children_of}
use Rattle.wt_beside_laws.proofs.OwnSigns.{Every, Finds, all_found, every_left, every_right, held_if, inside_found, own_found}
use Rattle.wt_beside_laws.proofs.Styled.SentNests.{IsStyleForm}
use Rattle.wt_called_edit_laws.proofs.Beside.Found.{as_found}
use Rattle.wt_called_edit_laws.specs.FoundGroups.{IsFoundAs}
use Rattle.wt_called_edit_laws.specs.StyledCallEdits.{HasNumberBy, HasNumbers, HaveNumbers}

-- by the inline form of its kind, with what is in a style
abbrev pub FoundBy : InlineForm → List Kept → Label → Trees → Type 0 → Type 0
FoundBy inline.Nothing ks l ts inside = Unit {0}
FoundBy inline.Characters ks l ts inside = Unit {0}
FoundBy inline.Bold ks l ts inside = IsFoundAs ks l ts × inside
FoundBy inline.Italic ks l ts inside = IsFoundAs ks l ts × inside
FoundBy inline.Shown ks l ts inside = IsFoundAs ks l ts
FoundBy inline.PageLink ks l ts inside = IsFoundAs ks l ts
FoundBy inline.ExternalLink ks l ts inside = IsFoundAs ks l ts
FoundBy inline.Tag ks l ts inside = IsFoundAs ks l ts
FoundBy inline.Break ks l ts inside = IsFoundAs ks l ts
FoundBy inline.AsItStood ks l ts inside = IsFoundAs ks l ts

abbrev mutual
  pub IsFound : List Kept → Tree → Type 0
  IsFound ks (tree l ts) = FoundBy (edit_shape l.kind).inline ks l ts (AreFound ks ts)

  pub AreFound : List Kept → Trees → Type 0
  AreFound ks none = Unit {0}
  AreFound ks (more t ts) = IsFound ks t × AreFound ks ts

-- a style holds its nodes
style_holds : (k : Kind) → IsStyleForm (edit_shape k).inline → (not (is_leaf k) && is_delimited (edit_shape k).items) ≡ true
style_holds kind.Bold s = refl
style_holds kind.Italic s = refl
style_holds k s = absurd s

one_found : (w : InlineForm) (block : Tree) (at from : ℕ) (l : Label) (ts : Trees) (N F : Type 0) → HasNumberBy w l N
    → Every (Finds block) (found_from at from (tree l ts)) → (IsStyleForm w → N → F) → FoundBy w (kept_nodes block) l ts F
one_found inline.Nothing block at from l ts N F h e f = tt
one_found inline.Characters block at from l ts N F h e f = tt
one_found inline.Bold block at from l ts N F h e f = (as_found block at from l ts (own_found (Finds block) at from l ts h.0 e), f tt h.1)
one_found inline.Italic block at from l ts N F h e f = (as_found block at from l ts (own_found (Finds block) at from l ts h.0 e), f tt h.1)
one_found inline.Shown block at from l ts N F h e f = as_found block at from l ts (own_found (Finds block) at from l ts h e)
one_found inline.PageLink block at from l ts N F h e f = as_found block at from l ts (own_found (Finds block) at from l ts h e)
one_found inline.ExternalLink block at from l ts N F h e f = as_found block at from l ts (own_found (Finds block) at from l ts h e)
one_found inline.Tag block at from l ts N F h e f = as_found block at from l ts (own_found (Finds block) at from l ts h e)
one_found inline.Break block at from l ts N F h e f = as_found block at from l ts (own_found (Finds block) at from l ts h e)
one_found inline.AsItStood block at from l ts N F h e f = as_found block at from l ts (own_found (Finds block) at from l ts h e)

mutual
  tree_found : (block : Tree) (at from : ℕ) (t : Tree) → HasNumbers t → Every (Finds block) (found_from at from t) → IsFound (kept_nodes block) t
  tree_found block at from (tree l ts) h e =
      one_found (edit_shape l.kind).inline block at from l ts (HaveNumbers ts) (AreFound (kept_nodes block) ts) h e
      (λ s n. all_in block (at + length l.opening) (from + length l.opening) ts n (inside_found (Finds block) at from l ts (style_holds l.kind s) e))

  all_in : (block : Tree) (at from : ℕ) (us : Trees) → HaveNumbers us → Every (Finds block) (found_in at from us) → AreFound (kept_nodes block) us
  all_in block at from none h e = tt
  all_in block at from (more t us) h e = (
    tree_found block at from t h.0 (every_left (Finds block) (found_from at from t) _ e),
    all_in block (at + length (flat t)) (from + length (visible (items t))) us h.1 (every_right (Finds block) (found_from at from t) _ e),
  )

pub nodes_found : (block : Tree) (n : ℕ) → 0 < n → counts_up n (kept_nodes block) ≡ true → is_leaf (label block).kind ≡ false → HaveNumbers (children_of block)
    → AreFound (kept_nodes block) (children_of block)
nodes_found (tree l ts) n some counts leaf h =
    all_in (tree l ts) (0 + length l.opening) (0 + length l.opening) ts h
    (inside_found (Finds (tree l ts)) 0 0 l ts (held_if l.kind leaf) (all_found (tree l ts) n some counts))
