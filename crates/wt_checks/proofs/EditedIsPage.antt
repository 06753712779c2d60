-- Where nothing is refused, the edited tree is the page's but for what may differ, and where it is, nothing
-- is refused.
use Rattle.std.proofs.Common.{◌≡◌, Bool, true, false, List, [], ◌∷◌, refl, sym, ap, ◌∙◌}
use Rattle.std.specs.Prelude.{◌==◌, ◌||◌, not, Option, Some, None}
use Rattle.std.specs.List.{AllByRecursion}
use Rattle.wt_tree.specs.declared.kind.Kind.{Kind}
use Rattle.wt_tree.specs.declared.kind.Kind.TheVariants as kind
use Rattle.wt_tree.specs.Kinds.{showing}
use Rattle.wt_tree.specs.Plain.{plain}
use Rattle.wt_tree.specs.Tiling.{is_group, InPreorder}
use Rattle.wt_tree.specs.Tree.{Tree, tree, label}
use Rattle.wt_checks.specs.Checked.{checked}
use Rattle.wt_checks.specs.Gist.{gist}
use Rattle.wt_checks.specs.Ids.{is_there, is_unknown}
use Rattle.wt_checks.specs.Kept.{Kept, GroupAsItWas, NodeAsItWas, NodeKept}
use Rattle.wt_checks.specs.Places.{Place, places, kind_at, is_kept, is_body, parent_below, Page, page_of}
use Rattle.wt_checks.specs.PutBack.{original, inside_back, put_back, all_put_back, IsOneBody, TextsHoldNoNumber, AreAsRead, IsThePage}
use Rattle.wt_checks.specs.Unmarked.{is_compared}
use Rattle.wt_checks.proofs.Children.{all_stand_in, free_root}
use Rattle.wt_checks.proofs.Given.{HiddenKept, all_given}
use Rattle.wt_checks.proofs.Found.{PageNodes, page_nodes, body_no_group}
use Rattle.wt_checks.proofs.InOrder.{Nowhere, none_of_them, not_false, zero_of}
use Rattle.wt_checks.proofs.Lookups.{all_page_numbers}
use Rattle.wt_checks.proofs.InNew.{held_in_new}
use Rattle.wt_checks.proofs.OnlyThePage.{gist_number, node_kept}
use Rattle.wt_checks.proofs.Parents.{edited_free}
use Rattle.wt_checks.proofs.PlainGist.{same_plain}
use Rattle.wt_checks.proofs.PutBack.{Stays, all_stay, at_some, not_both, IsFor, body_element, for_body, same_node}
use Rattle.wt_checks.proofs.Repeated.{and_not}
use Rattle.wt_checks.proofs.Standing.{all_distinct}
use Rattle.wt_checks.proofs.WhatIsKept.{kept, unrefused, increasing}

pub body_is : (k : Kind) → is_body k ≡ true → k ≡ kind.Body
body_is kind.Body e = refl
body_is k e = absurd (cc)

body_compared : (k : Kind) → is_body k ≡ true → is_compared (showing k) ≡ true
body_compared kind.Body e = refl
body_compared k e = absurd (cc)

pub nodes_of : (page : Tree) → IsOneBody page → InPreorder page → PageNodes page
nodes_of page b h =
    let k : (label page).kind ≡ kind.Body = body_is (label page).kind b.root in
    let n = all_page_numbers page k h in
    page_nodes page b n.root n.unnumbered n.counted (increasing page k h)

-- the place of the root
root_known : (page : Page) (t : Tree) → Nowhere (is_unknown page) [] (places t) → is_kept (record { node = t; parent = 0; in_content = false }) ≡ true
    → is_there (page (label t).id) ≡ true
root_known page (tree l ts) h k = not_false (is_there (page l.id)) (and_not (not (l.id == 0)) (not (is_there (page l.id))) h.0 k)

there_is : (o : Option Place) → is_there o ≡ true → (q : Place) × (o ≡ Some q)
there_is None e = absurd (cc)
there_is (Some q) e = (q, refl)

-- a body among the places of the edited tree has no number
no_number : (values : Bool) (page : Tree) (u : Tree) → PageNodes page → is_body (label u).kind ≡ true
    → Stays values (page_of page) (record { node = u; parent = 0; in_content = false })
    → is_there (page_of page (label u).id) ≡ true → not ((label u).id == 0) ≡ true → ⊥
no_number values page u n b s t k =
    let r = there_is (page_of page (label u).id) t in
    let h = n.each (label u).id r.0 r.1 in
    let z : is_kept r.0 ≡ true = ap (λ m. not (m == 0)) h.1 ∙ k in
    other_kind (is_group (kind_at r.0)) r.0 refl r.1 (h.0.other z)
  where
    other_kind : (g : Bool) (q : Place) → is_group (kind_at q) ≡ g → page_of page (label u).id ≡ Some q → is_body (kind_at q) ≡ false → ⊥
    other_kind true q g e f =
        let a = at_some (λ r. is_group (kind_at r) ≡ true → GroupAsItWas values r.node u) (page_of page (label u).id) q e (s.group k) g in
        not_both (is_group (label u).kind) a.group (body_no_group (label u).kind b)
    other_kind false q g e f =
        let a = at_some (λ r. is_group (kind_at r) ≡ false → NodeAsItWas r.node u) (page_of page (label u).id) q e
        (s.node (ap (λ x. x || is_body (label u).kind) k) refl) g in
        not_both (is_body (label u).kind) b (ap is_body (sym a.kind) ∙ f)

root_zero : (values : Bool) (page : Tree) (u : Tree) → PageNodes page → is_body (label u).kind ≡ true
    → Stays values (page_of page) (record { node = u; parent = 0; in_content = false })
    → (not ((label u).id == 0) ≡ true → is_there (page_of page (label u).id) ≡ true) → (label u).id ≡ 0
root_zero values page u n b s t = zero_by (not ((label u).id == 0)) refl
  where
    zero_by : (k : Bool) → not ((label u).id == 0) ≡ k → (label u).id ≡ 0
    zero_by true e = absurd (no_number values page u n b s (t e) e)
    zero_by false e = zero_of (label u).id e

first_place : (P : Place → Type 0) (t : Tree) → AllByRecursion P (places t) → P (record { node = t; parent = 0; in_content = false })
first_place P (tree l ts) h = h.0

root_for : (page u : Tree) → IsOneBody page → PageNodes page → is_body (label u).kind ≡ true → (label u).id ≡ 0 → (label page).id ≡ 0
    → IsFor (page_of page) (label u) (record { node = page; parent = 0; in_content = false })
root_for page u b n r z e =
    for_body (page_of page) (label u) (record { node = page; parent = 0; in_content = false }) r (ap (page_of page) z ∙ n.root) (e ∙ sym z)
    (body_no_group (label page).kind b.root) n.root_found n.known n.root_bare

-- the root of the edited tree has no number
pub edited_root : (values : Bool) (page edited : Tree) → IsOneBody page → InPreorder page → is_body (label edited).kind ≡ true
    → checked values page edited ≡ None → (label edited).id ≡ 0
edited_root values page edited b h r e =
    let k : (label page).kind ≡ kind.Body = body_is (label page).kind b.root in
    let a : Kept values page edited = kept values page edited k h e in
    let n : PageNodes page = nodes_of page b h in
    let s = all_stay values (page_of page) (places edited) a.groups a.nodes a.marks in
    let u = none_of_them (places page) (places edited) (increasing page k h) a.order in
    root_zero values page edited n r (first_place (Stays values (page_of page)) edited s) (root_known (page_of page) edited u.unknown)

pub same_gist : (values : Bool) (page edited : Tree) → IsOneBody page → InPreorder page → is_body (label edited).kind ≡ true
    → checked values page edited ≡ None → gist (put_back values (page_of page) edited) ≡ gist page
same_gist values page edited b h r e =
    let k : (label page).kind ≡ kind.Body = body_is (label page).kind b.root in
    let a : Kept values page edited = kept values page edited k h e in
    let n : PageNodes page = nodes_of page b h in
    let s = all_stay values (page_of page) (places edited) a.groups a.nodes a.marks in
    let z : (label edited).id ≡ 0 = edited_root values page edited b h r e in
    let q : Place = record { node = page; parent = 0; in_content = false } in
    same_node values (page_of page) 0 edited q n.each (root_for page edited b n r z (all_page_numbers page k h).root) s

put_back_kind : (values : Bool) (page : Page) (t : Tree) → (label (put_back values page t)).kind ≡ (label t).kind
put_back_kind values page (tree l ts) = refl

pub same_view : (values : Bool) (page edited : Tree) → IsOneBody page → InPreorder page → is_body (label edited).kind ≡ true
    → checked values page edited ≡ None → plain (put_back values (page_of page) edited) ≡ plain page
same_view values page edited b h r e =
    same_plain (put_back values (page_of page) edited) page
    (ap (λ j. is_compared (showing j)) (put_back_kind values (page_of page) edited) ∙ body_compared (label edited).kind r)
    (body_compared (label page).kind b.root) (same_gist values page edited b h r e)

-- ---- and back

root_number : (values : Bool) (page : Page) (u t : Tree) → is_body (label u).kind ≡ true → gist (put_back values page u) ≡ gist t → (label u).id ≡ (label t).id
root_number values page (tree m us) t b e =
    gist_number values (original page m) m (inside_back m.mark (is_group m.kind) (original page m) (all_put_back values page us)) t
    (body_element m.kind b) e

hidden_kept : (page : Page) (ps : List Place) → AllByRecursion (NodeKept page) ps → AllByRecursion (HiddenKept page) ps
hidden_kept page [] h = tt
hidden_kept page (p ∷ ps) h = ((λ s. h.0), hidden_kept page ps h.1)

pub is_page : (values : Bool) (page edited : Tree) → IsOneBody page → InPreorder page → is_body (label edited).kind ≡ true
    → checked values page edited ≡ None → IsThePage values page edited
is_page values page edited b h r e =
    let a : Kept values page edited = kept values page edited (body_is (label page).kind b.root) h e in
    record {
      compared = same_gist values page edited b h r e;
      order = a.order;
      groups = a.groups;
      hidden = hidden_kept (page_of page) (places edited) a.nodes;
      inside_new = held_in_new (NodeKept (page_of page)) 0 false edited a.nodes;
      marks = a.marks;
    }

pub page_is : (values : Bool) (page edited : Tree) → IsOneBody page → InPreorder page → TextsHoldNoNumber page → IsOneBody edited → AreAsRead edited
    → IsThePage values page edited → checked values page edited ≡ None
page_is values page edited b h t r d a =
    let k : (label page).kind ≡ kind.Body = body_is (label page).kind b.root in
    let i = all_page_numbers page k h in
    let n : PageNodes page = nodes_of page b h in
    let inc = increasing page k h in
    let z : (label edited).id ≡ 0 = root_number values (page_of page) edited page r.root a.compared ∙ i.root in
    let g = all_given values (page_of page) (places edited) a.groups a.hidden d (edited_free page edited b n i.unnumbered inc a.order)
    (all_stand_in page edited b.root n.root i inc (free_root page b t) a.order) (all_distinct edited (none_of_them (places page) (places edited) inc a.order).repeated) in
    unrefused values page edited k h (record {
      order = a.order;
      groups = a.groups;
      nodes =
          node_kept values (page_of page) 0 edited (record { node = page; parent = 0; in_content = false }) n.each
          (root_for page edited b n r.root z i.root) (ap (parent_below 0) z ∙ sym z) r.alone g a.inside_new a.compared;
      marks = a.marks;
    })
