-- Worked cases: text edits round groups, by the block as it stood in the page and as it was edited; and children that come and go.
use Rattle.std.proofs.Common.{ℕ, None, List, [], ◌∷◌, refl, inl, inr, true}
use Rattle.std.specs.Prelude.{codes, Bool}
use Rattle.wt_tree.specs.declared.kind.Kind.{Kind}
use Rattle.wt_tree.specs.declared.kind.Kind.TheVariants as kind
use Rattle.wt_tree.specs.declared.kind.Mark.TheVariants as mark
use Rattle.wt_tree.specs.Tree.{Label, Tree, tree, trees, none}
use Rattle.wt_tree.specs.EditShapes.{edit_shape}
use Rattle.wt_original.specs.Kept.{found_at, kept_of, kept_with}
use Rattle.wt_content.specs.declared.children.Holder.TheVariants as holder
use Rattle.wt_typed_blocks.specs.NewChildren.{AreChildren, IsNewBlock}
use Rattle.wt_typed_blocks.specs.TextEdits.{AreTextEdits, IsAsItWas}

abbrev labelled : Kind → ℕ → List ℕ → Label
labelled k id shown = record {
  kind = k;
  id = id;
  ranges = None;
  opening = [];
  closing = [];
  own = shown;
  shown = shown;
  attrs = [];
  mark = mark.Nothing;
  mw = None;
  origin = None;
}

abbrev text : List ℕ → Tree
text bytes = tree (labelled kind.Text 0 bytes) none

abbrev node : Kind → ℕ → List Tree → Tree
node k id ts = tree (labelled k id []) (trees ts)

-- ---- `a {{x}}` with `b` in place of `a`

-- a group with this number, which shows this text
abbrev group : ℕ → List ℕ → Tree
group id shown = node kind.Group id (text shown ∷ [])

abbrev page : Tree
page = node kind.Para 1 (text (codes "a ") ∷ group 2 (codes "x") ∷ [])

-- whatever the group is said to show
beside_group : AreTextEdits page true (trees (text (codes "b ") ∷ group 2 (codes "y") ∷ []))
unfolding kept_with
beside_group = (tt, (record { kept = kept_of page (found_at 2 2 (group 2 (codes "x"))); found = refl; kind = refl; shown = λ e. cc }, tt))

-- a group that the page doesn't have is none
other_group : IsAsItWas page (group 3 (codes "x")) → ⊥
unfolding kept_with
other_group h = let e = h.found in cc

-- ---- a link in which a group stands, and text is typed before it

abbrev link : List ℕ → Tree
link shown = node kind.WikiLink 2 (group 3 shown ∷ [])

abbrev page_with_link : Tree
page_with_link = node kind.Para 1 (link (codes "x") ∷ [])

beside_link : AreTextEdits page_with_link true (trees (text (codes "b ") ∷ link (codes "y") ∷ []))
unfolding kept_with
beside_link = (tt, (record { kept = kept_of page_with_link (found_at 0 0 (link (codes "x"))); found = refl; kind = refl; shown = λ e. refl }, tt))

-- text that is typed into the link isn't a text edit
into_link : IsAsItWas page_with_link (node kind.WikiLink 2 (text (codes "b") ∷ group 3 (codes "x") ∷ [])) → ⊥
unfolding kept_with
into_link h = let e = h.found in let s = h.shown refl in cc

-- ---- children

abbrev same : Tree → Tree → Bool
same t u = true

-- a new rule and white space in a body that lost all else
new_rule : AreChildren same holder.Body (trees (tree (labelled kind.Sep 0 (codes "\n")) none ∷ node kind.Rule 0 [] ∷ []))
new_rule = ((inl refl, (inr (inr (inr (inr refl), inl (refl, refl))), tt)), tt)

-- a list may not lose all its items, and no paragraph may come into it
no_item : AreChildren same holder.List none → ⊥
no_item h = h.1

no_paragraph : IsNewBlock holder.List kind.Para → ⊥
no_paragraph h = cc
