-- No path of a place begins another one, so any texts may be typed at them, and every other node be sent as it is.
use Rattle.std.proofs.Common.{◌≡◌, ℕ, zero, false, Option, List, [], ◌∷◌, ◌++◌, map, refl, sym, ap, ap₂, subst}
use Rattle.wt_tree.specs.declared.kind.Kind.TheVariants as kind
use Rattle.wt_tree.specs.Tiling.{InPreorder}
use Rattle.wt_tree.specs.Tree.{Label, Tree, label}
use Rattle.wt_checks.specs.Kept.{children}
use Rattle.wt_checks.specs.PutBack.{have_frame}
use Rattle.wt_text_edit_laws.specs.BlockSpots.{BlockSpot}
use Rattle.wt_called_edit_laws.specs.AnyBlocks.{typed_by, AllLead}
use Rattle.wt_called_edit_laws.specs.OwnTexts.{AreTypings}
use Rattle.wt_called_edit_laws.proofs.Cells.ManyPaths.{past, further, deeper, NoneEmpty, further_full, inside_full}
use Rattle.wt_called_edit_laws.proofs.Cells.OwnTexts.{AreApart, further_apart, first_apart, inside_apart, tree_edit}
use Rattle.wt_called_edit_laws.proofs.Cells.SentAsIs.{page_numbered}
use Rattle.wt_part_laws.specs.TreeFrames.{spot, kept, holder, TreeFrames, no_nodes, more_nodes}
use Rattle.wt_called_edit_laws.specs.PathsTo.{past_one, all_past, all_inside, paths_to}
use Rattle.wt_called_edit_laws.specs.TreeEdits.{IsNumberedBody, IsEditOf, own_edit, HasOwnEdits}

past_is : (p : List ℕ) → past_one p ≡ past p
past_is [] = refl
past_is (i ∷ is) = refl

further_is : (ps : List (List ℕ)) → all_past ps ≡ further ps
further_is [] = refl
further_is (p ∷ ps) = ap₂ (λ (q : List ℕ) (qs : List (List ℕ)). q ∷ qs) (past_is p) (further_is ps)

deeper_is : (ps : List (List ℕ)) → all_inside ps ≡ deeper ps
deeper_is [] = refl
deeper_is (p ∷ ps) = ap (λ (qs : List (List ℕ)). (zero ∷ p) ∷ qs) (deeper_is ps)

-- none is empty, and none begins another one
abbrev AreFit : List (List ℕ) → Type 0
AreFit ps = NoneEmpty ps × AreApart ps

past_fit : (ps : List (List ℕ)) → AreFit ps → AreFit (all_past ps)
past_fit ps h = subst AreFit (sym (further_is ps)) (further_full ps h.0, further_apart ps h.1)

spot_fit : (ps : List (List ℕ)) → AreFit ps → AreFit ((zero ∷ []) ∷ all_past ps)
spot_fit ps h =
    subst (λ (qs : List (List ℕ)). AreFit ((zero ∷ []) ∷ qs)) (sym (further_is ps))
    (further_full ps h.0, (first_apart [] ps h.0, further_apart ps h.1))

both_fit : (ps qs : List (List ℕ)) → AreFit ps → AreFit qs → AreFit (all_inside ps ++ all_past qs)
both_fit ps qs h g =
    subst (λ (xs : List (List ℕ)). AreFit (xs ++ all_past qs)) (sym (deeper_is ps))
    (subst (λ (xs : List (List ℕ)). AreFit (deeper ps ++ xs)) (sym (further_is qs))
    (inside_full ps (further qs) (further_full qs g.0), inside_apart ps qs g.0 h.1 g.1))

paths_fit : (fs : TreeFrames) → AreFit (paths_to fs)
paths_fit no_nodes = (tt, tt)
paths_fit (more_nodes (spot n) fs) = spot_fit (paths_to fs) (paths_fit fs)
paths_fit (more_nodes (kept t) fs) = past_fit (paths_to fs) (paths_fit fs)
paths_fit (more_nodes (holder l gs) fs) = both_fit (paths_to gs) (paths_to fs) (paths_fit gs) (paths_fit fs)

pub own_taken : (t : Tree) (ss : List BlockSpot) (fs : TreeFrames) (m : Label) (os : List (Option (List ℕ))) → AllLead ss (paths_to fs) t
    → (label t).kind ≡ kind.Body → InPreorder t → have_frame (children t) ≡ false → AreTypings ss os
    → IsEditOf t (paths_to fs) (own_edit t ss (paths_to fs) m os) × (map (typed_by (own_edit t ss (paths_to fs) m os)) (paths_to fs) ≡ os)
own_taken t ss fs m os lead body order alone u =
    let f = paths_fit fs in
    let e = tree_edit t ss (paths_to fs) m os f.0 f.1 (page_numbered t body order alone) lead u in
    (record { old = e.old; sent = e.sent; types = e.types; take = e.take }, e.texts)

pub own_edits : (t : Tree) (ss : List BlockSpot) (fs : TreeFrames) → IsNumberedBody t → AllLead ss (paths_to fs) t → HasOwnEdits t ss (paths_to fs)
own_edits t ss fs h lead = λ m os u. own_taken t ss fs m os lead h.body h.numbered h.alone u
