-- What is wrong in a content, as the walk over its nodes finds it.
use Rattle.std.proofs.Common.{◌≡◌, ℕ, ◌+◌, ◌<◌, ◌≤◌, Bool, List, [], ◌∷◌, ◌++◌, length, take, get_or, refl, sym, ap, ◌∙◌, Option, append_assoc, append-nil, subst, true, false}
use Rattle.std.specs.Prelude.{if◌then◌else◌, ◌&&◌, string_bytes}
use Rattle.std.specs.List.{flat_map}
use Rattle.std.proofs.lemmas.List.{flat_map_more, take_more, take_all}
use Rattle.wt_tree.specs.declared.node.Node.{Node, out-Node}
use Rattle.wt_tree.specs.Source.{flat}
use Rattle.wt_tree.specs.Tree.{Tree}
use Rattle.wt_tree.specs.View.{label_of, view, views}
use Rattle.wt_tree.proofs.Views.{view_out}
use Rattle.wt_tree.specs.declared.edit_shape.InlineForm.{InlineForm}
use Rattle.wt_original.specs.declared.page.Page.{Page as Known}
use Rattle.wt_tree.specs.EditShapes.{edit_shape}
use Rattle.wt_original.specs.Kept.{Kept, kept_nodes}
use Rattle.wt_original.specs.Page.{Page, page_of}
use Rattle.wt_original.specs.PageViews.{IsPageOf, page_view}
use Rattle.wt_content.specs.declared.content.Faults.{Faults}
use Rattle.wt_content.specs.declared.content.Surroundings.{Surroundings}
use Rattle.wt_content.specs.declared.content.Standing.{Standing}
use Rattle.wt_content.specs.declared.reason.ContentWhy.{ContentWhy}
use Rattle.wt_content.specs.Content.{all_faults, below, brings_link, faults, faults_by, first_why, held, holds_link, if_any, is_link, is_open, nested_fault, outermost, own_faults, standing}
use Rattle.wt_content.specs.Standings.{CountsAs}
use Rattle.wt_content.specs.Views.{HasFaults}

-- ---- one node

-- what is wrong from a node on, by its inline form, how it counts as standing, and what is wrong with it by itself
pub visited : (n : Node) (w : InlineForm) (p : Page) (x : Surroundings) (s : Standing) (why : Option ContentWhy) → (edit_shape (out-Node n).kind).inline ≡ w
    → CountsAs w s (standing p (view n)) → if_any why ≡ own_faults w x s (label_of (out-Node n))
    → faults p x (view n) ≡ nested_fault (x.in_link && brings_link w s (holds_link (view n)))
    ++ (if_any why ++ (if is_open w s then all_faults p (below x w) (views (out-Node n).children) else []))
visited n w p x s why e a own =
    let l = label_of (out-Node n) in
    let ts = views (out-Node n).children in
    let r = standing p (view n) in
    let inside = all_faults p (below x w) ts in
    let holds = holds_link (view n) in
    let fault : Bool → List ContentWhy = λ b. nested_fault (x.in_link && (if b then is_link w else holds)) ++ (if_any why ++ (if b then inside else [])) in
    ap (faults p x) (view_out n)
    ∙ ap (λ (t : Tree). faults_by (edit_shape l.kind).inline x (standing p t) l (holds_link t) (all_faults p (below x (edit_shape l.kind).inline) ts)) (sym (view_out n))
    ∙ ap (λ (v : InlineForm). faults_by v x r l holds (all_faults p (below x v) ts)) e
    ∙ ap (λ (ws : List ContentWhy). nested_fault (x.in_link && brings_link w r holds) ++ (ws ++ (if is_open w r then inside else [])))
    (sym (own ∙ a.faults x l))
    ∙ ap fault (sym a.opens)

pub closed_visit : (n : Node) (w : InlineForm) (p : Page) (x : Surroundings) (s : Standing) (why : Option ContentWhy) (f : Faults) (ws : List ContentWhy)
    → (edit_shape (out-Node n).kind).inline ≡ w → CountsAs w s (standing p (view n)) → if_any why ≡ own_faults w x s (label_of (out-Node n))
    → is_open w s ≡ false → HasFaults f ((ws ++ nested_fault (x.in_link && brings_link w s (holds_link (view n)))) ++ if_any why) → HasFaults f (ws ++ faults p x (view n))
closed_visit n w p x s why f ws e a own closed h =
    let inside = all_faults p (below x w) (views (out-Node n).children) in
    let nested = nested_fault (x.in_link && brings_link w s (holds_link (view n))) in
    let seen : faults p x (view n) ≡ nested ++ (if_any why ++ []) =
    visited n w p x s why e a own ∙ ap (λ (b : Bool). nested ++ (if_any why ++ (if b then inside else []))) closed in
    let joined : (ws ++ nested) ++ if_any why ≡ ws ++ (nested ++ (if_any why ++ [])) = simp (append_assoc, append-nil) in
    subst (HasFaults f) (joined ∙ ap (λ (vs : List ContentWhy). ws ++ vs) (sym seen)) h

pub open_visit : (n : Node) (w : InlineForm) (p : Page) (x y : Surroundings) (s : Standing) (why : Option ContentWhy) (f : Faults) (ws : List ContentWhy) (ns : List Node)
    → y ≡ below x w → ns ≡ (out-Node n).children → (edit_shape (out-Node n).kind).inline ≡ w → CountsAs w s (standing p (view n))
    → if_any why ≡ own_faults w x s (label_of (out-Node n)) → is_open w s ≡ true
    → HasFaults f (((ws ++ nested_fault (x.in_link && brings_link w s (holds_link (view n)))) ++ if_any why) ++ all_faults p y (views ns))
    → HasFaults f (ws ++ faults p x (view n))
open_visit n w p x y s why f ws ns under are e a own opened h =
    let inside = all_faults p (below x w) (views (out-Node n).children) in
    let nested = nested_fault (x.in_link && brings_link w s (holds_link (view n))) in
    let seen : faults p x (view n) ≡ nested ++ (if_any why ++ inside) =
    visited n w p x s why e a own ∙ ap (λ (b : Bool). nested ++ (if_any why ++ (if b then inside else []))) opened in
    let held_so : all_faults p y (views ns) ≡ inside =
    ap (λ (z : Surroundings). all_faults p z (views ns)) under ∙ ap (λ (ms : List Node). all_faults p (below x w) (views ms)) are in
    let joined : ((ws ++ nested) ++ if_any why) ++ inside ≡ ws ++ (nested ++ (if_any why ++ inside)) = simp append_assoc in
    subst (HasFaults f) (ap (λ (vs : List ContentWhy). ((ws ++ nested) ++ if_any why) ++ vs) held_so ∙ joined
    ∙ ap (λ (vs : List ContentWhy). ws ++ vs) (sym seen)) h

-- ---- all nodes

pub faults_views : (p : Page) (x : Surroundings) (ns : List Node) → all_faults p x (views ns) ≡ flat_map (λ n. faults p x (view n)) ns
faults_views p x [] = refl
faults_views p x (n ∷ ns) = ap (λ (ws : List ContentWhy). faults p x (view n) ++ ws) (faults_views p x ns)

pub next_visit : (p : Page) (x : Surroundings) (f : Faults) (ws : List ContentWhy) (ns : List Node) (i : ℕ) (n : Node) → i < length ns → n ≡ get_or ns i n
    → HasFaults f ((ws ++ flat_map (λ m. faults p x (view m)) (take i ns)) ++ faults p x (view n))
    → HasFaults f (ws ++ flat_map (λ m. faults p x (view m)) (take (i + 1) ns))
next_visit p x f ws ns i n l e h =
    let each : Node → List ContentWhy = λ m. faults p x (view m) in
    let one : (ws ++ flat_map each (take i ns)) ++ each n ≡ ws ++ flat_map each (take i ns ++ n ∷ []) = flat_map_more each ws (take i ns) n in
    let cut : take i ns ++ n ∷ [] ≡ take (i + 1) ns = ap (λ (m : Node). take i ns ++ m ∷ []) e ∙ sym (take_more ns i n l) in
    subst (HasFaults f) (one ∙ ap (λ (ms : List Node). ws ++ flat_map each ms) cut) h

pub all_visited : (p : Page) (x : Surroundings) (f : Faults) (ws : List ContentWhy) (ns : List Node) (i : ℕ) → length ns ≤ i
    → HasFaults f (ws ++ flat_map (λ m. faults p x (view m)) (take i ns)) → HasFaults f (ws ++ all_faults p x (views ns))
all_visited p x f ws ns i l h =
    let each : Node → List ContentWhy = λ m. faults p x (view m) in
    subst (HasFaults f) (ap (λ (ms : List Node). ws ++ flat_map each ms) (take_all i ns l)
    ∙ ap (λ (vs : List ContentWhy). ws ++ vs) (sym (faults_views p x ns))) h

-- ---- the content of a marked node

pub page_is : (same : Tree → Tree → Bool) (p : Known) (block : Tree) → IsPageOf (kept_nodes block) (flat block) p → page_view same p ≡ page_of same block
page_is same p block h =
    let by : List Kept → List ℕ → Page = λ ks bs. record { kept = ks; source = bs; same = same } in
    ap (λ (ks : List Kept). by ks (string_bytes p.source)) h.nodes ∙ ap (by (kept_nodes block)) h.bytes

pub content_is : (same : Tree → Tree → Bool) (p : Known) (old : Tree) (new : Node) (x : Surroundings) (ns : List Node) → IsPageOf (kept_nodes old) (flat old) p
    → x ≡ outermost old → ns ≡ (out-Node new).children
    → first_why (all_faults (page_view same p) x (views ns)) ≡ first_why (all_faults (page_of same old) (outermost old) (held (view new)))
content_is same p old new x ns h e are =
    ap (λ (q : Page). first_why (all_faults q x (views ns))) (page_is same p old h)
    ∙ ap (λ (y : Surroundings). first_why (all_faults (page_of same old) y (views ns))) e
    ∙ ap (λ (ms : List Node). first_why (all_faults (page_of same old) (outermost old) (views ms))) are
    ∙ ap (λ (t : Tree). first_why (all_faults (page_of same old) (outermost old) (held t))) (sym (view_out new))
