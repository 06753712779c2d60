-- What is wrong among children that come and go, as the walk over them finds it.
use Rattle.std.proofs.Common.{◌≡◌, ℕ, ◌+◌, ◌<◌, ◌≤◌, Bool, true, false, Option, List, [], ◌∷◌, ◌++◌, length, take, get_or, refl, sym, ap, ◌∙◌, subst}
use Rattle.std.specs.Prelude.{if◌then◌else◌, string_bytes}
use Rattle.std.specs.List.{flat_map}
use Rattle.std.proofs.lemmas.List.{flat_map_more, take_more, take_all}
use Rattle.wt_tree.specs.declared.node.Node.{Node, out-Node}
use Rattle.wt_tree.specs.Tree.{Tree, label}
use Rattle.wt_tree.specs.View.{view, views}
use Rattle.wt_tree.proofs.Views.{view_out}
use Rattle.wt_tree.specs.declared.edit_shape.BlockForm.{BlockForm}
use Rattle.wt_tree.specs.declared.edit_shape.EditShape.{EditShape}
use Rattle.wt_original.specs.declared.page.Page.{Page as Known}
use Rattle.wt_original.specs.Kept.{Kept}
use Rattle.wt_tree.specs.EditShapes.{edit_shape}
use Rattle.wt_original.specs.Page.{Page, no_page}
use Rattle.wt_original.specs.PageViews.{IsPageOf, page_view}
use Rattle.wt_content.specs.declared.children.Holder.{Holder}
use Rattle.wt_content.specs.declared.content.Faults.{Faults}
use Rattle.wt_content.specs.declared.content.Surroundings.{Surroundings}
use Rattle.wt_content.specs.declared.reason.ContentWhy.{ContentWhy}
use Rattle.wt_content.specs.declared.reason.ContentWhy.TheVariants as why
use Rattle.wt_content.specs.Children.{all_child_faults, bad_children, child_faults, children_faults, empty_fault, holder_of, if_any_held, inside_faults, is_rule, may_come, new_faults}
use Rattle.wt_content.specs.Content.{all_faults, first_why, held, if_any, outermost}
use Rattle.wt_content.specs.Views.{HasFaults}

pub children_views : (same : Tree → Tree → Bool) (h : Holder) (ns : List Node)
    → all_child_faults same h (views ns) ≡ flat_map (λ n. child_faults same h (view n)) ns
children_views same h [] = refl
children_views same h (n ∷ ns) = ap (λ (ws : List ContentWhy). child_faults same h (view n) ++ ws) (children_views same h ns)

pub next_child : (each : Node → List ContentWhy) (f : Faults) (ws : List ContentWhy) (ns : List Node) (i : ℕ) (n : Node) → i < length ns
    → n ≡ get_or ns i n → HasFaults f ((ws ++ flat_map each (take i ns)) ++ each n) → HasFaults f (ws ++ flat_map each (take (i + 1) ns))
next_child each f ws ns i n l e h =
    let one : (ws ++ flat_map each (take i ns)) ++ each n ≡ ws ++ flat_map each (take i ns ++ n ∷ []) = flat_map_more each ws (take i ns) n in
    let cut : take i ns ++ n ∷ [] ≡ take (i + 1) ns = ap (λ (m : Node). take i ns ++ m ∷ []) e ∙ sym (take_more ns i n l) in
    subst (HasFaults f) (one ∙ ap (λ (ms : List Node). ws ++ flat_map each ms) cut) h

pub all_children : (same : Tree → Tree → Bool) (h : Holder) (f : Faults) (ws : List ContentWhy) (ns : List Node) (i : ℕ) → length ns ≤ i
    → HasFaults f (ws ++ flat_map (λ n. child_faults same h (view n)) (take i ns)) → HasFaults f (ws ++ all_child_faults same h (views ns))
all_children same h f ws ns i l k =
    let each : Node → List ContentWhy = λ n. child_faults same h (view n) in
    subst (HasFaults f) (ap (λ (ms : List Node). ws ++ flat_map each ms) (take_all i ns l)
    ∙ ap (λ (vs : List ContentWhy). ws ++ vs) (sym (children_views same h ns))) k

pub page_is_none : (same : Tree → Tree → Bool) (p : Known) → IsPageOf [] [] p → page_view same p ≡ no_page same
page_is_none same p h =
    let by : List Kept → List ℕ → Page = λ ks bs. record { kept = ks; source = bs; same = same } in
    ap (λ (ks : List Kept). by ks (string_bytes p.source)) h.nodes ∙ ap (by []) h.bytes

-- ---- one new block

pub rule_inside : (same : Tree → Tree → Bool) (n : Node) (f : BlockForm) (b : Bool) (r : Option ContentWhy) (ns : List Node) (g : Faults)
    (ws : List ContentWhy) → b ≡ is_rule f → b ≡ true → ns ≡ (out-Node n).children → if_any r ≡ if_any_held (views ns)
    → HasFaults g (ws ++ if_any r) → HasFaults g (ws ++ inside_faults same f (view n))
rule_inside same n f b r ns g ws e t are is h =
    let rest = all_faults (no_page same) (outermost (view n)) (held (view n)) in
    let seen : if_any r ≡ if_any_held (held (view n)) =
    is ∙ ap (λ (ms : List Node). if_any_held (views ms)) are ∙ ap (λ (u : Tree). if_any_held (held u)) (sym (view_out n)) in
    subst (λ (vs : List ContentWhy). HasFaults g (ws ++ vs))
    (seen ∙ ap (λ (x : Bool). if x then if_any_held (held (view n)) else rest) (sym t ∙ e)) h

pub block_inside : (same : Tree → Tree → Bool) (n : Node) (f : BlockForm) (b : Bool) (p : Known) (x : Surroundings) (ns : List Node) (g : Faults)
    (ws : List ContentWhy) → b ≡ is_rule f → b ≡ false → IsPageOf [] [] p → x ≡ outermost (view n) → ns ≡ (out-Node n).children
    → HasFaults g (ws ++ all_faults (page_view same p) x (views ns)) → HasFaults g (ws ++ inside_faults same f (view n))
block_inside same n f b p x ns g ws e t none is are h =
    let rest = all_faults (no_page same) (outermost (view n)) (held (view n)) in
    let seen : all_faults (page_view same p) x (views ns) ≡ rest =
    ap (λ (q : Page). all_faults q x (views ns)) (page_is_none same p none)
    ∙ ap (λ (y : Surroundings). all_faults (no_page same) y (views ns)) is
    ∙ ap (λ (ms : List Node). all_faults (no_page same) (outermost (view n)) (views ms)) are
    ∙ ap (λ (u : Tree). all_faults (no_page same) (outermost (view n)) (held u)) (sym (view_out n)) in
    subst (λ (vs : List ContentWhy). HasFaults g (ws ++ vs))
    (seen ∙ ap (λ (y : Bool). if y then if_any_held (held (view n)) else rest) (sym t ∙ e)) h

pub new_inside : (same : Tree → Tree → Bool) (h : Holder) (n : Node) (s : EditShape) (b : Bool) (g : Faults) (ws : List ContentWhy)
    → s ≡ edit_shape (out-Node n).kind → b ≡ may_come h s.form → b ≡ true → HasFaults g (ws ++ inside_faults same s.form (view n))
    → HasFaults g (ws ++ new_faults same h (edit_shape (label (view n)).kind).form (view n))
new_inside same h n s b g ws is e t k =
    let form : s.form ≡ (edit_shape (label (view n)).kind).form =
    ap (λ (r : EditShape). r.form) (is ∙ ap (λ (u : Tree). edit_shape (label u).kind) (sym (view_out n))) in
    subst (λ (f : BlockForm). HasFaults g (ws ++ new_faults same h f (view n))) form
    (subst (λ (x : Bool). HasFaults g (ws ++ (if x then inside_faults same s.form (view n) else why.Element ∷ []))) (sym t ∙ e) k)

-- ---- all children

pub children_is : (same : Tree → Tree → Bool) (n : Node) (h : Holder) (ns ms : List Node) (r : Option ContentWhy) → h ≡ holder_of (out-Node n).kind
    → ns ≡ (out-Node n).children → ms ≡ (out-Node n).children → if_any r ≡ empty_fault h (views ms)
    → first_why (all_child_faults same h (views ns) ++ if_any r) ≡ bad_children same (view n)
unfolding bad_children
children_is same n h ns ms r is are too e =
    ap (λ (ws : List ContentWhy). first_why (all_child_faults same h (views ns) ++ ws)) (e ∙ ap (λ (ks : List Node). empty_fault h (views ks)) too)
    ∙ ap (λ (ks : List Node). first_why (all_child_faults same h (views ks) ++ empty_fault h (views (out-Node n).children))) are
    ∙ ap (λ (j : Holder). first_why (children_faults same j (views (out-Node n).children))) is
    ∙ ap (λ (u : Tree). first_why (children_faults same (holder_of (label u).kind) (held u))) (sym (view_out n))
