-- The nodes of a block, those in its bold and italic nodes among them, by their numbers.
use Rattle.std.specs.Prelude.{◌≡◌, ℕ, Option, Some, None, List, [], ◌∷◌, ◌++◌}
use Rattle.wt_tree.specs.declared.edit_shape.InlineForm.{InlineForm}
use Rattle.wt_tree.specs.declared.edit_shape.InlineForm.TheVariants as inline
use Rattle.wt_tree.specs.EditShapes.{edit_shape}
use Rattle.wt_tree.specs.Source.{flat}
use Rattle.wt_tree.specs.Tree.{Tree, tree, Trees, none, more}
use Rattle.wt_guards.specs.Content.{Thing}
use Rattle.wt_original.specs.Kept.{Kept, kept_with}

-- a text has none, and of a style those in it count
abbrev pub numbers_by : InlineForm → ℕ → List ℕ → List ℕ
numbers_by inline.Nothing n inside = []
numbers_by inline.Characters n inside = []
numbers_by inline.Bold n inside = inside
numbers_by inline.Italic n inside = inside
numbers_by inline.Shown n inside = n ∷ []
numbers_by inline.PageLink n inside = n ∷ []
numbers_by inline.ExternalLink n inside = n ∷ []
numbers_by inline.Tag n inside = n ∷ []
numbers_by inline.Break n inside = n ∷ []
numbers_by inline.AsItStood n inside = n ∷ []

abbrev mutual
  pub numbers_of : Tree → List ℕ
  numbers_of (tree l ts) = numbers_by (edit_shape l.kind).inline l.id (all_numbers ts)

  pub all_numbers : Trees → List ℕ
  all_numbers none = []
  all_numbers (more t us) = numbers_of t ++ all_numbers us

-- the nodes of the page with these numbers, as signs of a content have them
abbrev pub thing_of : Kept → Thing
thing_of k = record { role = k.role; source = flat k.node; place = Some k.place }

abbrev pub found_thing : Option Kept → List Thing
found_thing None = []
found_thing (Some k) = thing_of k ∷ []

abbrev pub things_with : List Kept → List ℕ → List Thing
things_with ks [] = []
things_with ks (n ∷ ns) = found_thing (kept_with n ks) ++ things_with ks ns

-- some of these, in their order
abbrev pub AreSomeOf : {A : Type 0} → List A → List A → Type 0
AreSomeOf [] os = Unit {0}
AreSomeOf {A} (x ∷ xs) os = (gone : List A) × (later : List A) × (os ≡ gone ++ x ∷ later) × AreSomeOf xs later
