-- The signs of a block of the page as it is: the characters of its texts, and its nodes, each with its place.
use Rattle.std.specs.Prelude.{◌≡◌, ◌≢◌, ◌<◌, ℕ, ◌+◌, true, false, List, [], ◌∷◌, ◌++◌, length}
use Rattle.wt_tree.specs.Kinds.{is_leaf}
use Rattle.wt_tree.specs.Source.{flat}
use Rattle.wt_tree.specs.Tiling.{NoneIsGroup}
use Rattle.wt_tree.specs.Tree.{Label, Tree, tree, Trees, none, more, label}
use Rattle.wt_tree.specs.EditShapes.{edit_shape}
use Rattle.wt_tree.specs.declared.edit_shape.InlineForm.{InlineForm}
use Rattle.wt_tree.specs.declared.edit_shape.InlineForm.TheVariants as inline
use Rattle.wt_guards.specs.Content.{ContentSign, letters}
use Rattle.wt_original.specs.Kept.{items, visible, found_at, kept_of, kept_nodes}
use Rattle.wt_original.specs.Numbers.{counts_up}
use Rattle.wt_link_spelling.specs.Spelling.{kept_thing, children_of}

-- a node with so many bytes and visible items of its block before it
abbrev pub own_node : Tree → ℕ → ℕ → Tree → List ContentSign
own_node block at from t = kept_thing (kept_of block (found_at at from t)) ∷ []

-- By the inline form of its kind; styles aren't among them.
abbrev pub own_by : InlineForm → Tree → ℕ → ℕ → Label → Trees → List ContentSign
own_by inline.Nothing block at from l ts = []
own_by inline.Characters block at from l ts = letters l.shown
own_by inline.Bold block at from l ts = []
own_by inline.Italic block at from l ts = []
own_by inline.Shown block at from l ts = own_node block at from (tree l ts)
own_by inline.PageLink block at from l ts = own_node block at from (tree l ts)
own_by inline.ExternalLink block at from l ts = own_node block at from (tree l ts)
own_by inline.Tag block at from l ts = own_node block at from (tree l ts)
own_by inline.Break block at from l ts = own_node block at from (tree l ts)
own_by inline.AsItStood block at from l ts = own_node block at from (tree l ts)

abbrev pub own_signs : Tree → ℕ → ℕ → Trees → List ContentSign
own_signs block at from none = []
own_signs block at from (more (tree l ts) us) =
    own_by (edit_shape l.kind).inline block at from l ts
    ++ own_signs block (at + length (flat (tree l ts))) (from + length (visible (items (tree l ts)))) us

-- texts, separators and nodes with a number; no style
abbrev pub HasOwnBy : InlineForm → Label → Type 0
HasOwnBy inline.Nothing l = Unit {0}
HasOwnBy inline.Characters l = Unit {0}
HasOwnBy inline.Bold l = ⊥
HasOwnBy inline.Italic l = ⊥
HasOwnBy inline.Shown l = l.id ≢ 0
HasOwnBy inline.PageLink l = l.id ≢ 0
HasOwnBy inline.ExternalLink l = l.id ≢ 0
HasOwnBy inline.Tag l = l.id ≢ 0
HasOwnBy inline.Break l = l.id ≢ 0
HasOwnBy inline.AsItStood l = l.id ≢ 0

abbrev pub HaveOwn : Trees → Type 0
HaveOwn none = Unit {0}
HaveOwn (more (tree l ts) us) = HasOwnBy (edit_shape l.kind).inline l × HaveOwn us

-- A block of the page without groups whose numbers count up, and that holds no styles.
pub record IsFlatBlock (block : Tree) : Type 0 where
  pub first : ℕ
  pub some : 0 < first
  pub counts : counts_up first (kept_nodes block) ≡ true
  pub no_leaf : is_leaf (label block).kind ≡ false
  pub ungrouped : NoneIsGroup (children_of block)
  pub own : HaveOwn (children_of block)
