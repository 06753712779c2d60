-- The nodes of a block are found by their numbers.
use Rattle.std.proofs.Common.{◌≡◌, ℕ, ◌+◌, ◌<◌, true, false, List, length, refl}
use Rattle.wt_tree.specs.Kinds.{is_leaf}
use Rattle.wt_tree.specs.Source.{flat}
use Rattle.wt_tree.specs.Tree.{Label, Tree, tree, Trees, none, more, label}
use Rattle.wt_tree.specs.EditShapes.{edit_shape}
use Rattle.wt_tree.specs.declared.edit_shape.InlineForm.{InlineForm}
use Rattle.wt_tree.specs.declared.edit_shape.InlineForm.TheVariants as inline
use Rattle.wt_original.specs.Kept.{Kept, kept_of, kept_nodes, items, visible, found_at, found_from, found_in}
use Rattle.wt_original.specs.Numbers.{counts_up}
use Rattle.wt_link_spelling.specs.Spelling.{children_of}
use Rattle.wt_beside_laws.specs.OwnSigns.{HasOwnBy, HaveOwn}
use Rattle.wt_called_edit_laws.specs.FoundGroups.{IsFoundAs, HasFoundGroups, HaveFoundGroups}
use Rattle.wt_beside_laws.proofs.OwnSigns.{Every, every_left, every_right, Finds, all_found, own_found, inside_found, held_if}

-- by the inline form of its kind; styles aren't among them
abbrev pub FoundBy : InlineForm → List Kept → Label → Trees → Type 0
FoundBy inline.Nothing ks l ts = Unit {0}
FoundBy inline.Characters ks l ts = Unit {0}
FoundBy inline.Bold ks l ts = ⊥
FoundBy inline.Italic ks l ts = ⊥
FoundBy inline.Shown ks l ts = IsFoundAs ks l ts × HasFoundGroups ks (tree l ts)
FoundBy inline.PageLink ks l ts = IsFoundAs ks l ts × HasFoundGroups ks (tree l ts)
FoundBy inline.ExternalLink ks l ts = IsFoundAs ks l ts × HasFoundGroups ks (tree l ts)
FoundBy inline.Tag ks l ts = IsFoundAs ks l ts × HasFoundGroups ks (tree l ts)
FoundBy inline.Break ks l ts = IsFoundAs ks l ts × HasFoundGroups ks (tree l ts)
FoundBy inline.AsItStood ks l ts = IsFoundAs ks l ts × HasFoundGroups ks (tree l ts)

abbrev pub AreFound : List Kept → Trees → Type 0
AreFound ks none = Unit {0}
AreFound ks (more (tree l ts) us) = FoundBy (edit_shape l.kind).inline ks l ts × AreFound ks us

pub as_found : (block : Tree) (at from : ℕ) (l : Label) (ts : Trees) → Finds block (found_at at from (tree l ts)) → IsFoundAs (kept_nodes block) l ts
as_found block at from l ts f = record { kept = kept_of block (found_at at from (tree l ts)); found = f; node = refl }

one_found : (w : InlineForm) (block : Tree) (at from : ℕ) (l : Label) (ts : Trees) → HasOwnBy w l → Every (Finds block) (found_from at from (tree l ts))
    → HasFoundGroups (kept_nodes block) (tree l ts) → FoundBy w (kept_nodes block) l ts
one_found inline.Nothing block at from l ts own e g = tt
one_found inline.Characters block at from l ts own e g = tt
one_found inline.Bold block at from l ts own e g = own
one_found inline.Italic block at from l ts own e g = own
one_found inline.Shown block at from l ts own e g = (as_found block at from l ts (own_found (Finds block) at from l ts own e), g)
one_found inline.PageLink block at from l ts own e g = (as_found block at from l ts (own_found (Finds block) at from l ts own e), g)
one_found inline.ExternalLink block at from l ts own e g = (as_found block at from l ts (own_found (Finds block) at from l ts own e), g)
one_found inline.Tag block at from l ts own e g = (as_found block at from l ts (own_found (Finds block) at from l ts own e), g)
one_found inline.Break block at from l ts own e g = (as_found block at from l ts (own_found (Finds block) at from l ts own e), g)
one_found inline.AsItStood block at from l ts own e g = (as_found block at from l ts (own_found (Finds block) at from l ts own e), g)

all_found_in : (block : Tree) (at from : ℕ) (us : Trees) → HaveOwn us → Every (Finds block) (found_in at from us) → HaveFoundGroups (kept_nodes block) us
    → AreFound (kept_nodes block) us
all_found_in block at from none own e g = tt
all_found_in block at from (more (tree l ts) us) own e g = (
  one_found (edit_shape l.kind).inline block at from l ts own.0 (every_left (Finds block) (found_from at from (tree l ts)) _ e) g.0,
  all_found_in block (at + length (flat (tree l ts))) (from + length (visible (items (tree l ts)))) us own.1
      (every_right (Finds block) (found_from at from (tree l ts)) _ e) g.1,
)

pub nodes_found : (block : Tree) (n : ℕ) → 0 < n → counts_up n (kept_nodes block) ≡ true → is_leaf (label block).kind ≡ false → HaveOwn (children_of block)
    → HaveFoundGroups (kept_nodes block) (children_of block) → AreFound (kept_nodes block) (children_of block)
nodes_found (tree l ts) n some counts leaf own groups =
    all_found_in (tree l ts) (0 + length l.opening) (0 + length l.opening) ts own
    (inside_found (Finds (tree l ts)) 0 0 l ts (held_if l.kind leaf) (all_found (tree l ts) n some counts)) groups
