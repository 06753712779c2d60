-- The paths of places in a tree: none is empty, they are as many as the places, and lead to the blocks.
use Rattle.std.proofs.Common.{arith, ◌≡◌, ℕ, zero, suc, ◌≤◌, Bool, true, false, List, [], ◌∷◌, ◌++◌, sym, ap, ◌∙◌, subst}
use Rattle.wt_tree.specs.declared.row.Texts.{Texts}
use Rattle.wt_tree.specs.Kinds.{texts_of_kind}
use Rattle.wt_tree.specs.Tree.{Label, Tree, tree, Trees, none, more}
use Rattle.wt_span.specs.Items.{Item}
use Rattle.wt_inline.specs.ItemTree.{ItemTree, forest, held_by_all}
use Rattle.wt_annotated.specs.Numbering.{next_after}
use Rattle.wt_part_laws.specs.Frames.{place, whole, around, Frames, no_frames, more_frames, tree_at, trees_at, all_places}
use Rattle.wt_part_laws.specs.Standing.{standing}
use Rattle.wt_text_edit_laws.specs.TextBlocks.{TextBlock}
use Rattle.wt_text_edit_laws.proofs.Prose.ProseTrees.{blocks_of, number_behind, items_behind}
use Rattle.wt_called_edit_laws.specs.AnyBlocks.{LeadsTo, LeadsAmong}
use Rattle.wt_called_edit_laws.proofs.Cells.Cuts.{beside}
use Rattle.wt_called_edit_laws.proofs.Cells.OwnEdits.{number_grows, next_grows}
use Rattle.wt_called_edit_laws.proofs.Cells.Nodes.{number_after, items_after, holder_label, standing_inner}
use Rattle.wt_called_edit_laws.proofs.Cells.ManyNodes.{AllBorders, fore_at, nodes_from, nodes_are}

-- ---- paths

-- behind one more node
abbrev pub past : List ℕ → List ℕ
past [] = []
past (i ∷ is) = suc i ∷ is

abbrev pub further : List (List ℕ) → List (List ℕ)
further [] = []
further (p ∷ ps) = past p ∷ further ps

-- behind these nodes
abbrev pub behind_all : Trees → List (List ℕ) → List (List ℕ)
behind_all none ps = ps
behind_all (more t ts) ps = further (behind_all ts ps)

-- in the first node
abbrev pub deeper : List (List ℕ) → List (List ℕ)
deeper [] = []
deeper (p ∷ ps) = (zero ∷ p) ∷ deeper ps

-- those of the places, in their order
abbrev pub paths_from : (ℕ → ItemTree) → Bool → Texts → ℕ → List Item → List ItemTree → Frames → List (List ℕ)
paths_from t v x n b us no_frames = []
paths_from t v x n b us (more_frames (whole u) fs) = paths_from t v x n b (us ++ u ∷ []) fs
paths_from t v x n b us (more_frames (place i) fs) =
    behind_all (fore_at v x (blocks_of n b us)) ((zero ∷ [])
    ∷ further (paths_from t false x (number_behind (number_after n b us) (items_after b us) (t i)) (items_behind (items_after b us) (t i)) [] fs))
paths_from t v x n b us (more_frames (around h p gs c) fs) =
    behind_all (fore_at v x (blocks_of n b us))
    (deeper (paths_from t true (texts_of_kind h.kind) (next_after h.kind (number_after n b us)) (items_after b us ++ p) [] gs)
    ++ further (paths_from t false x (number_behind (number_after n b us) (items_after b us) (tree_at t (around h p gs c)))
    (items_behind (items_after b us) (tree_at t (around h p gs c))) [] fs))

-- ---- none is empty

abbrev pub NoneEmpty : List (List ℕ) → Type 0
NoneEmpty [] = Unit {0}
NoneEmpty ([] ∷ ps) = ⊥
NoneEmpty ((i ∷ is) ∷ ps) = NoneEmpty ps

pub further_full : (ps : List (List ℕ)) → NoneEmpty ps → NoneEmpty (further ps)
further_full [] h = tt
further_full ([] ∷ ps) h = absurd h
further_full ((i ∷ is) ∷ ps) h = further_full ps h

behind_full : (ts : Trees) (ps : List (List ℕ)) → NoneEmpty ps → NoneEmpty (behind_all ts ps)
behind_full none ps h = h
behind_full (more t ts) ps h = further_full (behind_all ts ps) (behind_full ts ps h)

pub inside_full : (ps qs : List (List ℕ)) → NoneEmpty qs → NoneEmpty (deeper ps ++ qs)
inside_full [] qs h = h
inside_full (p ∷ ps) qs h = inside_full ps qs h

pub paths_full : (t : ℕ → ItemTree) (v : Bool) (x : Texts) (n : ℕ) (b : List Item) (us : List ItemTree) (fs : Frames) → NoneEmpty (paths_from t v x n b us fs)
paths_full t v x n b us no_frames = tt
paths_full t v x n b us (more_frames (whole u) fs) = paths_full t v x n b (us ++ u ∷ []) fs
paths_full t v x n b us (more_frames (place i) fs) =
    let m : ℕ = number_behind (number_after n b us) (items_after b us) (t i) in
    let a : List Item = items_behind (items_after b us) (t i) in
    behind_full (fore_at v x (blocks_of n b us)) ((zero ∷ []) ∷ further (paths_from t false x m a [] fs))
    (further_full (paths_from t false x m a [] fs) (paths_full t false x m a [] fs))
paths_full t v x n b us (more_frames (around h p gs c) fs) =
    let m : ℕ = number_behind (number_after n b us) (items_after b us) (tree_at t (around h p gs c)) in
    let a : List Item = items_behind (items_after b us) (tree_at t (around h p gs c)) in
    let ps : List (List ℕ) = paths_from t true (texts_of_kind h.kind) (next_after h.kind (number_after n b us)) (items_after b us ++ p) [] gs in
    behind_full (fore_at v x (blocks_of n b us)) (deeper ps ++ further (paths_from t false x m a [] fs))
    (inside_full ps (further (paths_from t false x m a [] fs)) (further_full (paths_from t false x m a [] fs) (paths_full t false x m a [] fs)))

-- ---- as many as places

abbrev pub AreAsMany : List ℕ → List (List ℕ) → Type 0
AreAsMany [] [] = Unit {0}
AreAsMany [] (p ∷ ps) = ⊥
AreAsMany (i ∷ is) [] = ⊥
AreAsMany (i ∷ is) (p ∷ ps) = AreAsMany is ps

further_many : (is : List ℕ) (ps : List (List ℕ)) → AreAsMany is ps → AreAsMany is (further ps)
further_many [] [] h = tt
further_many [] (p ∷ ps) h = absurd h
further_many (i ∷ is) [] h = absurd h
further_many (i ∷ is) (p ∷ ps) h = further_many is ps h

behind_many : (ts : Trees) (is : List ℕ) (ps : List (List ℕ)) → AreAsMany is ps → AreAsMany is (behind_all ts ps)
behind_many none is ps h = h
behind_many (more t ts) is ps h = further_many is (behind_all ts ps) (behind_many ts is ps h)

pub deeper_many : (is : List ℕ) (ps : List (List ℕ)) → AreAsMany is ps → AreAsMany is (deeper ps)
deeper_many [] [] h = tt
deeper_many [] (p ∷ ps) h = absurd h
deeper_many (i ∷ is) [] h = absurd h
deeper_many (i ∷ is) (p ∷ ps) h = deeper_many is ps h

both_many : (is js : List ℕ) (ps qs : List (List ℕ)) → AreAsMany is ps → AreAsMany js qs → AreAsMany (is ++ js) (ps ++ qs)
both_many [] js [] qs h g = g
both_many [] js (p ∷ ps) qs h g = absurd h
both_many (i ∷ is) js [] qs h g = absurd h
both_many (i ∷ is) js (p ∷ ps) qs h g = both_many is js ps qs h g

pub paths_many : (t : ℕ → ItemTree) (v : Bool) (x : Texts) (n : ℕ) (b : List Item) (us : List ItemTree) (fs : Frames)
    → AreAsMany (all_places fs) (paths_from t v x n b us fs)
paths_many t v x n b us no_frames = tt
paths_many t v x n b us (more_frames (whole u) fs) = paths_many t v x n b (us ++ u ∷ []) fs
paths_many t v x n b us (more_frames (place i) fs) =
    let m : ℕ = number_behind (number_after n b us) (items_after b us) (t i) in
    let a : List Item = items_behind (items_after b us) (t i) in
    let qs : List (List ℕ) = paths_from t false x m a [] fs in
    behind_many (fore_at v x (blocks_of n b us)) (i ∷ all_places fs) ((zero ∷ []) ∷ further qs) (further_many (all_places fs) qs (paths_many t false x m a [] fs))
paths_many t v x n b us (more_frames (around h p gs c) fs) =
    let m : ℕ = number_behind (number_after n b us) (items_after b us) (tree_at t (around h p gs c)) in
    let a : List Item = items_behind (items_after b us) (tree_at t (around h p gs c)) in
    let j : ℕ = next_after h.kind (number_after n b us) in
    let ps : List (List ℕ) = paths_from t true (texts_of_kind h.kind) j (items_after b us ++ p) [] gs in
    let qs : List (List ℕ) = paths_from t false x m a [] fs in
    behind_many (fore_at v x (blocks_of n b us)) (all_places gs ++ all_places fs) (deeper ps ++ further qs)
    (both_many (all_places gs) (all_places fs) (deeper ps) (further qs)
    (deeper_many (all_places gs) ps (paths_many t true (texts_of_kind h.kind) j (items_after b us ++ p) [] gs))
    (further_many (all_places fs) qs (paths_many t false x m a [] fs)))

-- ---- the paths lead to the blocks

abbrev pub LeadsFrom : TextBlock → List ℕ → Trees → Type 0
LeadsFrom k [] ts = ⊥
LeadsFrom k (i ∷ is) ts = LeadsAmong k i is ts

abbrev pub AllLeadFrom : (ℕ → TextBlock) → List ℕ → List (List ℕ) → Trees → Type 0
AllLeadFrom k [] ps ts = Unit {0}
AllLeadFrom k (i ∷ is) [] ts = Unit {0}
AllLeadFrom k (i ∷ is) (p ∷ ps) ts = LeadsFrom (k i) p ts × AllLeadFrom k is ps ts

leads_past : (k : TextBlock) (p : List ℕ) (t : Tree) (ts : Trees) → LeadsFrom k p ts → LeadsFrom k (past p) (more t ts)
leads_past k [] t ts h = absurd h
leads_past k (i ∷ is) t ts h = h

lead_further : (k : ℕ → TextBlock) (is : List ℕ) (ps : List (List ℕ)) (t : Tree) (ts : Trees) → AllLeadFrom k is ps ts → AllLeadFrom k is (further ps) (more t ts)
lead_further k [] ps t ts h = tt
lead_further k (i ∷ is) [] t ts h = tt
lead_further k (i ∷ is) (p ∷ ps) t ts h = (leads_past (k i) p t ts h.0, lead_further k is ps t ts h.1)

lead_behind : (k : ℕ → TextBlock) (is : List ℕ) (ps : List (List ℕ)) (ts us : Trees) → AllLeadFrom k is ps us → AllLeadFrom k is (behind_all ts ps) (beside ts us)
lead_behind k is ps none us h = h
lead_behind k is ps (more t ts) us h = lead_further k is (behind_all ts ps) t (beside ts us) (lead_behind k is ps ts us h)

pub leads_inside : (k : TextBlock) (p : List ℕ) (l : Label) (ts : Trees) → LeadsFrom k p ts → LeadsTo k p (tree l ts)
leads_inside k [] l ts h = absurd h
leads_inside k (i ∷ is) l ts h = h

lead_deeper : (k : ℕ → TextBlock) (is : List ℕ) (ps : List (List ℕ)) (l : Label) (ts us : Trees) → AllLeadFrom k is ps ts → AllLeadFrom k is (deeper ps) (more (tree l ts) us)
lead_deeper k [] ps l ts us h = tt
lead_deeper k (i ∷ is) [] l ts us h = tt
lead_deeper k (i ∷ is) (p ∷ ps) l ts us h = (leads_inside (k i) p l ts h.0, lead_deeper k is ps l ts us h.1)

lead_both : (k : ℕ → TextBlock) (is js : List ℕ) (ps qs : List (List ℕ)) (ts : Trees) → AreAsMany is ps → AllLeadFrom k is ps ts → AllLeadFrom k js qs ts
    → AllLeadFrom k (is ++ js) (ps ++ qs) ts
lead_both k [] js [] qs ts m h g = g
lead_both k [] js (p ∷ ps) qs ts m h g = absurd m
lead_both k (i ∷ is) js [] qs ts m h g = absurd m
lead_both k (i ∷ is) js (p ∷ ps) qs ts m h g = (h.0, lead_both k is js ps qs ts m h.1 g)

pub lead_from : (t : ℕ → ItemTree) (k : ℕ → TextBlock) → ((i m : ℕ) (a : List Item) → 1 ≤ m → LeadsTo (k i) [] (standing m a (t i)))
    → (v : Bool) (x : Texts) (n : ℕ) (b : List Item) (us : List ItemTree) (fs : Frames) → 1 ≤ n → AllBorders t fs
    → AllLeadFrom k (all_places fs) (paths_from t v x n b us fs) (nodes_from t v x n b us fs)
lead_from t k z v x n b us no_frames le g = tt
lead_from t k z v x n b us (more_frames (whole u) fs) le g = lead_from t k z v x n b (us ++ u ∷ []) fs le g
lead_from t k z v x n b us (more_frames (place i) fs) le g =
    let w : ℕ = number_after n b us in
    let c : List Item = items_after b us in
    let m : ℕ = number_behind w c (t i) in
    let a : List Item = items_behind c (t i) in
    let qs : List (List ℕ) = paths_from t false x m a [] fs in
    let grown : n ≤ w = number_grows n b us in
    let p : Tree = standing w c (t i) in
    let rest : Trees = nodes_from t false x m a [] fs in
    lead_behind k (i ∷ all_places fs) ((zero ∷ []) ∷ further qs) (fore_at v x (blocks_of n b us)) (more p rest)
    (z i w c (omega (arith, le, grown)), lead_further k (all_places fs) qs p rest (lead_from t k z false x m a [] fs (omega (arith, le, grown)) g))
lead_from t k z v x n b us (more_frames (around h c gs d) fs) le g =
    let w : ℕ = number_after n b us in
    let e : List Item = items_after b us in
    let u : ItemTree = tree_at t (around h c gs d) in
    let m : ℕ = number_behind w e u in
    let a : List Item = items_behind e u in
    let j : ℕ = next_after h.kind w in
    let y : List Item = e ++ c in
    let X : Texts = texts_of_kind h.kind in
    let ps : List (List ℕ) = paths_from t true X j y [] gs in
    let qs : List (List ℕ) = paths_from t false x m a [] fs in
    let grown : n ≤ w = number_grows n b us in
    let more_grown : w ≤ j = next_grows _ w in
    let rest : Trees = nodes_from t false x m a [] fs in
    let L : Label = holder_label w e h c (c ++ (held_by_all (forest (trees_at t gs)) ++ d)) d in
    let node : tree L (nodes_from t true X j y [] gs) ≡ standing w e u =
    ap (tree L) (sym (nodes_are t true X j y [] gs g.1)) ∙ sym (standing_inner w e h c (forest (trees_at t gs)) d g.0.leaf g.0.group) in
    lead_behind k (all_places gs ++ all_places fs) (deeper ps ++ further qs) (fore_at v x (blocks_of n b us)) (more (standing w e u) rest)
    (lead_both k (all_places gs) (all_places fs) (deeper ps) (further qs) (more (standing w e u) rest)
    (deeper_many (all_places gs) ps (paths_many t true X j y [] gs))
    (subst (λ q. AllLeadFrom k (all_places gs) (deeper ps) (more q rest)) node
    (lead_deeper k (all_places gs) ps L (nodes_from t true X j y [] gs) rest (lead_from t k z true X j y [] gs (omega (arith, le, grown, more_grown)) g.2)))
    (lead_further k (all_places fs) qs (standing w e u) rest (lead_from t k z false x m a [] fs (omega (arith, le, grown)) g.3)))
