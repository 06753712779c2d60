-- Blocks that come and go pass the checks, and nothing is wrong with them.
use Rattle.std.proofs.Common.{◌≡◌, ℕ, Bool, true, false, List, [], ◌∷◌, ◌++◌, refl, sym, ap, ◌∙◌, subst, inl, inr}
use Rattle.std.specs.Prelude.{◌==◌, ◌||◌, not, if◌then◌else◌, None}
use Rattle.std.specs.List.{AllByRecursion, flat_map}
use Rattle.std.proofs.lemmas.Grind.{flat_map-append}
use Rattle.wt_tree.specs.Tiling.{InPreorder}
use Rattle.wt_tree.specs.declared.kind.Kind.{Kind}
use Rattle.wt_tree.specs.Tree.{Label, Tree, tree, label}
use Rattle.wt_original.specs.Kept.{kept_with}
use Rattle.wt_checks.specs.Checked.{checked}
use Rattle.wt_checks.specs.Kept.{IsSublist, kept_under, NodeAsItWas, GroupKept, NodeKept, MarkKept, Kept}
use Rattle.wt_checks.specs.Places.{placed, all_placed, places, is_content, Page, page_of}
use Rattle.wt_checks.specs.PutBack.{has_frame, have_frame, IsOneBody}
use Rattle.wt_checks.proofs.Found.{Itself, each_itself, found_root}
use Rattle.wt_checks.proofs.InOrder.{not_zero_kept}
use Rattle.wt_checks.proofs.Lookups.{each_split, each_join}
use Rattle.wt_checks.proofs.Repeated.{or_false}
use Rattle.wt_checks.proofs.WhatIsKept.{increasing, unrefused}
use Rattle.wt_content.specs.declared.children.Holder.TheVariants as holder
use Rattle.wt_content.specs.declared.reason.ContentWhy.{ContentWhy}
use Rattle.wt_content.specs.Children.{is_space, all_child_faults, bad_children, new_faults}
use Rattle.wt_content.specs.Content.{first_why}
use Rattle.wt_tree.specs.EditShapes.{edit_shape}
use Rattle.wt_slices.specs.Changes.{Pair, pair_at}
use Rattle.wt_typed_blocks.specs.Sent.{StandsAsIs}
use Rattle.wt_typed_blocks.specs.Coming.{Coming, no_more, spaced, comes, stays, goes, page_children, sent_children, body_before, body_sent, Stays, AllStay}
use Rattle.wt_typed_blocks.proofs.EditedKept.{more_sublist, under_join, both_joined, some_under, kept_by, nodes_kept, groups_kept, marks_none}
use Rattle.wt_typed_blocks.proofs.EditedSlices.{Same, no_pairs}
use Rattle.wt_typed_blocks.proofs.SentFrames.{no_frame_sent}
use Rattle.wt_typed_blocks.proofs.SentGroups.{no_mark}

-- ---- numbers in their order

under : (n m : ℕ) (v w : Bool) (cs : Coming) → AllStay cs
    → IsSublist (kept_under n (all_placed m w (sent_children cs))) (kept_under n (all_placed m v (page_children cs)))
under n m v w no_more h = tt
under n m v w (spaced x cs) h = under n m v w cs h
under n m v w (comes k x [] cs) h = under n m v w cs h
under n m v w (comes k x (b ∷ bs) cs) h = under n m v w cs h
under n m v w (stays t u cs) h =
    both_joined n (placed m w u) (all_placed m w (sent_children cs)) (placed m v t) (all_placed m v (page_children cs)) (some_under n m v w t u h.0.as_is)
    (under n m v w cs h.1)
under n m v w (goes t cs) h =
    let own : List ℕ = kept_under n (all_placed m w (sent_children cs)) in
    let others : List ℕ = kept_under n (all_placed m v (page_children cs)) in
    subst (λ (xs : List ℕ). IsSublist own xs) (sym (under_join n (placed m v t) (all_placed m v (page_children cs))))
    (more_sublist own (kept_under n (placed m v t)) others (under n m v w cs h))

-- ---- nodes, groups and marks

nodes : (page : Page) (i j : ℕ) (v w : Bool) (cs : Coming) → AllStay cs → have_frame (page_children cs) ≡ false
    → AllByRecursion (Itself page) (all_placed i v (page_children cs)) → AllByRecursion (NodeKept page) (all_placed j w (sent_children cs))
nodes page i j v w no_more h f it = tt
nodes page i j v w (spaced x cs) h f it = (λ a b. absurd (cc), nodes page i j v w cs h f it)
nodes page i j v w (comes k x [] cs) h f it = (λ a b. absurd (cc), nodes page i j v w cs h f it)
nodes page i j v w (comes k x (c ∷ bs) cs) h f it = (λ a b. absurd (cc), (λ a b. absurd (cc), nodes page i j v w cs h f it))
nodes page i j v w (stays t u cs) h f it =
    let d = or_false (has_frame t) (have_frame (page_children cs)) f in
    let s = each_split (Itself page) (placed i v t) (all_placed i v (page_children cs)) it in
    each_join (NodeKept page) (placed j w u) (all_placed j w (sent_children cs)) (nodes_kept page i j v w t u h.0.as_is d.0 s.0)
    (nodes page i j v w cs h.1 d.1 s.1)
nodes page i j v w (goes t cs) h f it =
    let d = or_false (has_frame t) (have_frame (page_children cs)) f in
    let s = each_split (Itself page) (placed i v t) (all_placed i v (page_children cs)) it in
    nodes page i j v w cs h d.1 s.1

groups : (page : Page) (i j : ℕ) (v w : Bool) (cs : Coming) → AllStay cs → AllByRecursion (Itself page) (all_placed i v (page_children cs))
    → AllByRecursion (GroupKept false page) (all_placed j w (sent_children cs))
groups page i j v w no_more h it = tt
groups page i j v w (spaced x cs) h it = (λ k. absurd (cc), groups page i j v w cs h it)
groups page i j v w (comes m x [] cs) h it = (λ k. absurd (cc), groups page i j v w cs h it)
groups page i j v w (comes m x (c ∷ bs) cs) h it = (λ k. absurd (cc), (λ k. absurd (cc), groups page i j v w cs h it))
groups page i j v w (stays t u cs) h it =
    let s = each_split (Itself page) (placed i v t) (all_placed i v (page_children cs)) it in
    each_join (GroupKept false page) (placed j w u) (all_placed j w (sent_children cs)) (groups_kept page i j v w t u h.0.as_is s.0)
    (groups page i j v w cs h.1 s.1)
groups page i j v w (goes t cs) h it =
    let s = each_split (Itself page) (placed i v t) (all_placed i v (page_children cs)) it in groups page i j v w cs h s.1

marked_so : (page : Page) (j : ℕ) (cs : Coming) → AllStay cs → AllByRecursion (MarkKept page) (all_placed j false (sent_children cs))
marked_so page j no_more h = tt
marked_so page j (spaced x cs) h = (λ e. absurd (cc), marked_so page j cs h)
marked_so page j (comes m x [] cs) h = (λ e. absurd (cc), marked_so page j cs h)
marked_so page j (comes m x (c ∷ bs) cs) h = (λ e. absurd (cc), (λ e. absurd (cc), marked_so page j cs h))
marked_so page j (stays t u cs) h =
    each_join (MarkKept page) (placed j false u) (all_placed j false (sent_children cs)) (marks_none page j false u (no_mark t u h.0.as_is))
    (marked_so page j cs h.1)
marked_so page j (goes t cs) h = marked_so page j cs h

-- ---- all of it

pub found : (l : Label) (cs : Coming) → InPreorder (body_before l cs)
    → AllByRecursion (Itself (page_of (body_before l cs))) (all_placed 0 (is_content l.mark) (page_children cs))
found l cs pre = (each_itself (places (body_before l cs)) (increasing (body_before l cs) refl pre)).1

pub passes : (l b : Label) (cs : Coming) → InPreorder (body_before l cs) → have_frame (page_children cs) ≡ false → AllStay cs
    → checked false (body_before l cs) (body_sent l b cs) ≡ None
passes l b cs pre f h =
    let t : Tree = body_before l cs in
    let u : Tree = body_sent l b cs in
    let page : Page = page_of t in
    let it = found l cs pre in
    let was : NodeAsItWas t u = record { kind = refl; attrs = refl; mw = inr refl; holds = inl refl } in
    let all : Kept false t u = record {
      order = λ n. under n 0 (is_content l.mark) false cs h;
      groups = (λ k. absurd (cc), groups page 0 0 (is_content l.mark) false cs h it);
      nodes = (
        kept_by page (record { node = u; parent = 0; in_content = false }) (record { node = t; parent = 0; in_content = false }) (found_root t refl) was,
        nodes page 0 0 (is_content l.mark) false cs h f it,
      );
      marks = (λ e. record { outside = refl; old = refl; allowed = refl }, marked_so page 0 cs h);
    } in
    unrefused false t u refl pre all

-- ---- no body and no section

frameless : (cs : Coming) → AllStay cs → have_frame (page_children cs) ≡ false → have_frame (sent_children cs) ≡ false
frameless no_more h f = refl
frameless (spaced x cs) h f = frameless cs h f
frameless (comes m x [] cs) h f = frameless cs h f
frameless (comes m x (c ∷ bs) cs) h f = frameless cs h f
frameless (stays t u cs) h f =
    let d = or_false (has_frame t) (have_frame (page_children cs)) f in
    ap (λ (b : Bool). b || have_frame (sent_children cs)) (no_frame_sent t u h.0.as_is d.0) ∙ frameless cs h.1 d.1
frameless (goes t cs) h f = frameless cs h (or_false (has_frame t) (have_frame (page_children cs)) f).1

pub one_body : (l b : Label) (cs : Coming) → AllStay cs → have_frame (page_children cs) ≡ false → IsOneBody (body_sent l b cs)
one_body l b cs h f = record { root = refl; alone = frameless cs h f }

-- ---- the body alone is marked

pub no_pairs_in : (page : Page) (j : ℕ) (w : Bool) (cs : Coming) → AllStay cs → flat_map (pair_at page) (all_placed j w (sent_children cs)) ≡ []
no_pairs_in page j w no_more h = refl
no_pairs_in page j w (spaced x cs) h = no_pairs_in page j w cs h
no_pairs_in page j w (comes m x [] cs) h = no_pairs_in page j w cs h
no_pairs_in page j w (comes m x (c ∷ bs) cs) h = no_pairs_in page j w cs h
no_pairs_in page j w (stays t u cs) h =
    flat_map-append (pair_at page) (placed j w u) (all_placed j w (sent_children cs))
    ∙ ap (λ (ps : List Pair). ps ++ flat_map (pair_at page) (all_placed j w (sent_children cs))) (no_pairs page j w u (no_mark t u h.0.as_is))
    ∙ no_pairs_in page j w cs h.1
no_pairs_in page j w (goes t cs) h = no_pairs_in page j w cs h

-- ---- nothing is wrong with its children

-- the number of what stays
pub same_number : (t u : Tree) → StandsAsIs t u → (label u).id ≡ (label t).id
same_number (tree l ts) (tree m us) h = h.0.id

pub same_space : (t u : Tree) → StandsAsIs t u → is_space (label u).kind ≡ is_space (label t).kind
same_space (tree l ts) (tree m us) h = ap (λ (k : Kind). is_space k) h.0.kind

skipped : (b : Bool) (ws : List ContentWhy) → (if b || true then [] else ws) ≡ []
skipped true ws = refl
skipped false ws = refl

kept_number : (t u : Tree) → Stays t u → not ((label u).id == 0) ≡ true
kept_number t u h = ap (λ (n : ℕ). not (n == 0)) (same_number t u h.as_is) ∙ not_zero_kept (label t).id h.numbered

no_faults : (same : Same) (cs : Coming) → AllStay cs → all_child_faults same holder.Body (sent_children cs) ≡ []
unfolding kept_with
no_faults same no_more h = refl
no_faults same (spaced x cs) h = no_faults same cs h
no_faults same (comes m x [] cs) h = no_faults same cs h
no_faults same (comes m x (c ∷ bs) cs) h = no_faults same cs h
no_faults same (stays t u cs) h =
    let ws : List ContentWhy = new_faults same holder.Body (edit_shape (label u).kind).form u in
    let rest : List ContentWhy = all_child_faults same holder.Body (sent_children cs) in
    ap (λ (b : Bool). (if is_space (label u).kind || b then [] else ws) ++ rest) (kept_number t u h.0)
    ∙ ap (λ (vs : List ContentWhy). vs ++ rest) (skipped (is_space (label u).kind) ws)
    ∙ no_faults same cs h.1
no_faults same (goes t cs) h = no_faults same cs h

pub good_children : (same : Same) (l b : Label) (cs : Coming) → AllStay cs → bad_children same (body_sent l b cs) ≡ None
unfolding bad_children
good_children same l b cs h = ap (λ (ws : List ContentWhy). first_why (ws ++ [])) (no_faults same cs h)
