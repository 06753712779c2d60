-- The nodes of a flat page are full by their sources: no node of the page is a group, so none is empty, and all is the page's own.
use Rattle.std.proofs.Common.{◌≡◌, ℕ, ◌+◌, true, false, Option, List, [], ◌∷◌, ◌++◌, length, map, sym, subst}
use Rattle.wt_span.specs.Items.{Item}
use Rattle.wt_span.specs.Runs.{runs, IsRun, AreRuns}
use Rattle.wt_span.proofs.RunLaws.{runs_are}
use Rattle.wt_guards.specs.Content.{Thing}
use Rattle.wt_inline.specs.declared.loose.Loose.{Loose}
use Rattle.wt_inline.specs.ItemTree.{ItemTree, forest, tree_items, held_by_all}
use Rattle.wt_inline.specs.Parts.{Part, loose, node, one_leaf, child, children}
use Rattle.wt_annotated.specs.WithoutCalls.{AllNonEmpty, IsPlain}
use Rattle.wt_text_edit_laws.specs.ParagraphBetween.{body_with}
use Rattle.wt_text_edit_laws.proofs.Texts.TypedShown.{AllOfPage}
use Rattle.wt_text_edit_laws.proofs.Blocks.PageItems.{all_of}
use Rattle.wt_text_edit_laws.specs.ParagraphParts.{para_with, joined_parts}
use Rattle.wt_beside_laws.specs.PageSigns.{signs_of_lines}
use Rattle.wt_beside_laws.specs.Stood.{things}
use Rattle.wt_beside_laws.proofs.LineThings.{lines_have}
use Rattle.wt_beside_laws.proofs.PartThings.{HaveThings, tree_source}
use Rattle.wt_beside_laws.specs.FlatPages.{lines_of, IsFlatPage}
use Rattle.wt_beside_laws.proofs.Edits.OldPages.{flat_page}
use Rattle.wt_beside_laws.proofs.Each.{Each}
use Rattle.wt_beside_laws.proofs.Edits.FullTrees.{IsFullTree, AreFullParts, AreFull, FullThing, each_full, node_alone}

-- ---- the nodes among parts

abbrev FullNodes : List Part → Type 0
FullNodes [] = Unit {0}
FullNodes (loose k o b ∷ ps) = FullNodes ps
FullNodes (node t ∷ ps) = IsFullTree t × FullNodes ps

loose_alone : (k : Loose) (o : Option ℕ) (b : ℕ) (t : ItemTree) (r others : List Part) → IsRun one_leaf (loose k o b ∷ node t ∷ r) others → ⊥
loose_alone k o b t r others h = let e : false ≡ true = h.0 in cc

past_loose : (k : Loose) (o : Option ℕ) (b : ℕ) (r others : List Part) → IsRun one_leaf (loose k o b ∷ r) others → FullNodes others
    → FullNodes ((loose k o b ∷ r) ++ others)
past_loose k o b [] others run h = h
past_loose k o b (loose j i c ∷ r) others run h = past_loose j i c r others run.1 h
past_loose k o b (node t ∷ r) others run h = absurd (loose_alone k o b t r others run)

runs_nodes : (rs : List (List Part)) (ps : List Part) → AreRuns one_leaf rs ps → AllNonEmpty (forest (map child rs))
    → AllOfPage (held_by_all (forest (map child rs))) → FullNodes ps
runs_nodes [] ps a f g = subst FullNodes (sym a) tt
runs_nodes ([] ∷ rs) ps a f g = absurd a.2
runs_nodes ((loose k o b ∷ r) ∷ rs) ps a f g =
    let own = all_of (tree_items (child (loose k o b ∷ r))) (held_by_all (forest (map child rs))) g in
    subst FullNodes (sym a.1) (past_loose k o b r a.0 a.2 (runs_nodes rs a.0 a.3 f.2 own.1))
runs_nodes ((node t ∷ []) ∷ rs) ps a f g =
    let own = all_of (tree_items t) (held_by_all (forest (map child rs))) g in
    let full : IsFullTree t = (f.0, f.1, own.0) in
    subst FullNodes (sym a.1) (full, runs_nodes rs a.0 a.3 f.2 own.1)
runs_nodes ((node t ∷ p ∷ r) ∷ rs) ps a f g = absurd (node_alone t p r a.0 a.2)

children_nodes : (ps : List Part) → AllNonEmpty (forest (children ps)) → AllOfPage (held_by_all (forest (children ps))) → FullNodes ps
unfolding children
children_nodes ps f g = runs_nodes (runs one_leaf ps) ps (runs_are one_leaf ps) f g

-- ---- by their sources

have_full : (at : ℕ) (ps : List Part) (ts : List Thing) → HaveThings at ps ts → FullNodes ps → Each FullThing ts
have_full at [] ts h f = subst (Each FullThing) (sym h) tt
have_full at (loose k o b ∷ ps) ts h f = have_full (at + 1) ps ts h.1 f
have_full at (node t ∷ ps) ts h f =
    let own : AreFullParts (node t ∷ []) = (f.0, tt) in
    subst (Each FullThing) (sym h.2) (subst AreFullParts (sym h.4) own, have_full (at + length (tree_source t)) ps h.1 h.5 f.1)

para_nodes : (ps : List Part) → IsPlain (body_with (para_with ps ∷ [])) → FullNodes ps
para_nodes ps h =
    let inside : List Item = held_by_all (forest (children ps)) in
    children_nodes ps h.none_empty.1 (all_of inside [] (all_of (inside ++ []) [] (all_of ((inside ++ []) ++ []) [] h.of_page).0).0).0

pub old_full : (q : List ℕ) → IsFlatPage q → AreFull (signs_of_lines 0 (lines_of q))
old_full q h =
    let ps : List Part = joined_parts (lines_of q) in
    let signs = signs_of_lines 0 (lines_of q) in
    each_full signs (have_full 0 ps (things signs) (lines_have 0 (lines_of q) h.unstyled h.flat) (para_nodes ps (flat_page q h).plain))
