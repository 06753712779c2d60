-- What is sent under the number of a node of the page may stay, and nothing else.
use Rattle.std.proofs.Common.{◌≡◌, ℕ, Bool, true, false, Some, None, List, [], ◌∷◌, map, refl, sym, ap, ap₂, ◌∙◌, subst, arith, true≢false}
use Rattle.std.specs.Prelude.{◌==◌, ◌&&◌, not, filter, Option}
use Rattle.std.specs.List.{AllByRecursion}
use Rattle.wt_tree.specs.declared.kind.Kind.TheVariants as kind
use Rattle.wt_tree.specs.Kinds.{showing}
use Rattle.wt_tree.specs.Opened.{opened, without_sections}
use Rattle.wt_tree.specs.Tiling.{InPreorder}
use Rattle.wt_tree.specs.Tree.{Label, Tree, tree, Trees, none, more, label}
use Rattle.wt_checks.specs.Alike.{same_attrs, same_kind}
use Rattle.wt_checks.specs.BareSections.{HasBareSections}
use Rattle.wt_checks.specs.Kept.{children}
use Rattle.wt_checks.specs.Places.{Page, Place, is_kept, number, page_of, parent_below, places}
use Rattle.wt_checks.specs.Unmarked.{is_compared}
use Rattle.wt_checks.proofs.Compares.{attrs_decide, kinds_decide}
use Rattle.wt_checks.proofs.Found.{Itself, each_itself, found_has}
use Rattle.wt_checks.proofs.InOrder.{Increasing, kept_not_zero, not_zero_kept, same_by, test_equal}
use Rattle.wt_checks.proofs.Sections.{are_alike, kept_places}
use Rattle.wt_checks.proofs.WhatIsKept.{increasing}
use Rattle.wt_difference.specs.Difference.{is_partner, stays_in}
use Rattle.wt_difference.specs.Unedited.{AreUnedited}
use Rattle.wt_places.specs.Turns.{may_stay, turns}
use Rattle.wt_call_laws.specs.Choices.{those_that_may_stay}
use Rattle.wt_call_laws.specs.Sent.{IsOf, IsSentFor, StaysThere, those_that_show}
use Rattle.wt_call_laws.specs.Untouched.{AreNumbered}
use Rattle.wt_call_laws.proofs.Choosing.{all_stay, both}
use Rattle.wt_call_laws.proofs.Standing.{AllStand, Rising, Stands, in_number, stands}
use Rattle.wt_call_laws.proofs.TurnsUnedited.{and_both, choice_rises, kind_same, own}

-- ---- by numbers

stays_by : (page : Page) (q : Place) (v : Tree) → page (number q) ≡ Some q → IsSentFor q.node v → stays_in page q.parent v ≡ true
stays_by page q v f s =
    ap (λ n. is_partner q.parent v (page n)) s.number ∙ ap (is_partner q.parent v) f
    ∙ and_both (not ((label v).id == 0)) _ (not_zero_kept (label v).id (λ x. s.numbered (sym s.number ∙ x)))
    (and_both (q.parent == q.parent) _ (test_equal q.parent q.parent refl)
    (and_both (same_kind (label q.node).kind (label v).kind) (same_attrs (label q.node).attrs (label v).attrs)
    ((kinds_decide (label q.node).kind (label v).kind).1 (sym s.kind)) ((attrs_decide (label q.node).attrs (label v).attrs).1 (sym s.attrs))))

all_stay_there : (page : Page) (ps : List Place) → AllByRecursion (Itself page) ps → AllByRecursion (StaysThere page) ps
all_stay_there page [] h = tt
all_stay_there page (q ∷ ps) h = (
  λ v s. and_both (is_compared (showing (label v).kind)) (stays_in page q.parent v) s.shows
      (stays_by page q v (h.0 (not_zero_kept (number q) s.numbered)) s),
  all_stay_there page ps h.1,
)

pub own_nodes : (page : Tree) → (label page).kind ≡ kind.Body → InPreorder page → AllByRecursion (StaysThere (page_of page)) (places page)
own_nodes page b i = all_stay_there (page_of page) (places page) (each_itself (places page) (increasing page b i))

-- ---- nothing else

own_by : (page : Page) (holder : ℕ) (v : Tree) (o : Option Place) → page (label v).id ≡ o → ((q : Place) → page (label v).id ≡ Some q → number q ≡ (label v).id)
    → is_compared (showing (label v).kind) ≡ true → is_partner holder v o ≡ true → IsOf page holder v
own_by page holder v None f n c e = absurd (true≢false (sym e))
own_by page holder v (Some q) f n c e =
    let a = both (not ((label v).id == 0)) _ e in
    let b = both (q.parent == holder) _ a.1 in
    let d = both (same_kind (label q.node).kind (label v).kind) (same_attrs (label q.node).attrs (label v).attrs) b.1 in
    record {
      place = q;
      found = f;
      held = same_by q.parent holder b.0;
      sent = record {
        numbered = λ z. kept_not_zero (label v).id a.0 (sym (n q f) ∙ z);
        number = sym (n q f);
        kind = sym ((kinds_decide (label q.node).kind (label v).kind).0 d.0);
        attrs = sym ((attrs_decide (label q.node).attrs (label v).attrs).0 d.1);
        shows = c;
      };
    }

each_place : (ps : List Place) → AllByRecursion (λ (p : Place). Unit {0}) ps
each_place [] = tt
each_place (p ∷ ps) = (tt, each_place ps)

pub only_own_nodes : (page : Tree) (holder : ℕ) (v : Tree) → may_stay (page_of page) holder v ≡ true → IsOf (page_of page) holder v
only_own_nodes page holder v e =
    let a = both (is_compared (showing (label v).kind)) (stays_in (page_of page) holder v) e in
    own_by (page_of page) holder v (page_of page (label v).id) refl
    (λ q f. (found_has (λ (p : Place). Unit {0}) (label v).id q (places page) (each_place (places page)) f).1) a.0 a.1

-- ---- blocks that are the page's own

no_number : (holder : ℕ) (u : Tree) (o : Option Place) → ((label u).id == 0) ≡ true → is_partner holder u o ≡ false
no_number holder u None e = refl
no_number holder u (Some q) e = ap (λ (b : Bool). not b && ((q.parent == holder)
    && (same_kind (label q.node).kind (label u).kind && same_attrs (label q.node).attrs (label u).attrs))) e

-- sections make no difference
stays_same : (page : Tree) → HasBareSections page → (holder : ℕ) (u : Tree) → stays_in (page_of page) holder u ≡ stays_in (page_of (without_sections page)) holder u
stays_same page h holder u = by ((label u).id == 0) refl
  where
    by : (b : Bool) → ((label u).id == 0) ≡ b → stays_in (page_of page) holder u ≡ stays_in (page_of (without_sections page)) holder u
    by true e = no_number holder u (page_of page (label u).id) e ∙ sym (no_number holder u (page_of (without_sections page) (label u).id) e)
    by false e = ap (is_partner holder u) ((are_alike page h).each (label u).id e)

may_by : (c s : Bool) → (c ≡ true → s ≡ true) → (c && s) ≡ c
may_by true s f = f refl
may_by false s f = refl

shown_may : (page other : Page) (holder : ℕ) (ts us : Trees) → ((u : Tree) → stays_in page holder u ≡ stays_in other holder u) → AllStand other holder ts
    → AreNumbered ts → AreUnedited ts us → those_that_may_stay page holder us ≡ those_that_show us
shown_may page other holder none none same a n e = refl
shown_may page other holder none (more u us) same a n e = absurd e
shown_may page other holder (more t ts) none same a n e = absurd e
shown_may page other holder (more t ts) (more u us) same a n e =
    ap₂ (λ (b : Bool) (bs : List Bool). b ∷ bs)
    (may_by (is_compared (showing (label u).kind)) (stays_in page holder u)
    (λ c. same u ∙ (own other holder t u a.0 e.0 (n.0 (ap (λ k. is_compared (showing k)) (kind_same t u e.0) ∙ c))).stays))
    (shown_may page other holder ts us same a.1 n.1 e.1)

unmoved_by : (page : Tree) (l : Label) (ts us : Trees) → l.id ≡ 0 → ((u : Tree) → stays_in (page_of page) 0 u ≡ stays_in (page_of (tree l ts)) 0 u)
    → Increasing (map number (filter is_kept (places (tree l ts)))) → AreNumbered ts → AreUnedited ts us
    → turns (page_of page) 0 0 us ≡ those_that_show us
unmoved_by page l ts us z same up n e =
    let s : Stands (page_of (tree l ts)) 0 (tree l ts) =
    stands (page_of (tree l ts)) 0 false (tree l ts) (each_itself (places (tree l ts)) up) (in_number (places (tree l ts)) up) in
    let a : AllStand (page_of (tree l ts)) 0 ts = subst (λ (m : ℕ). AllStand (page_of (tree l ts)) m ts) (ap (parent_below 0) z) s.1.1 in
    let r : Rising 0 ts = s.1.0 in
    all_stay (page_of page) 0 0 us (choice_rises (page_of page) 0 0 0 ts us (omega arith) r e)
    ∙ shown_may (page_of page) (page_of (tree l ts)) 0 ts us same a n e

pub unmoved : (page edited : Tree) → (label page).kind ≡ kind.Body → InPreorder page → HasBareSections page → AreNumbered (opened (children page))
    → AreUnedited (opened (children page)) (children edited) → turns (page_of page) 0 0 (children edited) ≡ those_that_show (children edited)
unmoved (tree l ts) edited b i h n e =
    unmoved_by (tree l ts) l (opened ts) (children edited) h.root (λ u. stays_same (tree l ts) h 0 u)
    (subst (λ (ps : List Place). Increasing (map number ps)) (kept_places (tree l ts) h) (increasing (tree l ts) b i)) n e
