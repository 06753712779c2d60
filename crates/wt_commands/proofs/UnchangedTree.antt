-- What is read of the HTML that is written for a tree, unchanged, keeps all that the checks of an edit ask for, and marks nothing.
use Rattle.std.proofs.Common.{◌≡◌, ℕ, suc, Bool, true, false, List, [], ◌∷◌, ◌++◌, refl, sym, ap, ◌∙◌, subst, inl, inr}
use Rattle.std.specs.Prelude.{◌==◌, ◌&&◌, ◌||◌, not, if◌then◌else◌, MatchOption, Option, Some, None}
use Rattle.std.specs.List.{AllByRecursion}
use Rattle.wt_tree.specs.declared.kind.Kind.{Kind}
use Rattle.wt_tree.specs.declared.kind.Kind.TheVariants as kind
use Rattle.wt_tree.specs.declared.kind.Mark.{Mark}
use Rattle.wt_tree.specs.declared.kind.Mark.TheVariants as mark
use Rattle.wt_tree.specs.declared.row.Writing.{Writing}
use Rattle.wt_tree.specs.declared.row.Writing.TheVariants.{AsText, AsVoid, RoundCharacter, RoundChildren, AsSection, Unwritten}
use Rattle.wt_tree.specs.Kinds.{shape, showing, writing, is_numbered, is_section, texts_of_kind}
use Rattle.wt_tree.specs.Opened.{all_opened_before, opened}
use Rattle.wt_tree.specs.Tiling.{is_group, ids, ids_of_all, others, others_of_all, InPreorder}
use Rattle.wt_tree.specs.Tree.{Label, Tree, tree, Trees, none, more, label}
use Rattle.wt_schema.specs.GroupNodes.{elements_for, group_nodes, inner_node, inner_nodes}
use Rattle.wt_tree.specs.Plain.{Plain, text, element, Plains, ended, along}
use Rattle.wt_schema.specs.Written.{label_read, unranged, unranged_all, is_childless, IsTextIn, IsElementLabel, IsCutIn, IsWrittenGroup, NodeIsWritten, WrittenIn, AllWrittenIn}
use Rattle.wt_schema.proofs.Bare.{others_read}
use Rattle.wt_schema.proofs.Rows.{is_somewhere, held}
use Rattle.wt_sections.specs.SectionLaws.{NoneIsSection}
use Rattle.wt_page_round_trip.proofs.Sectioned.{IsWrittenBody}
use Rattle.wt_checks.specs.Checked.{checked}
use Rattle.wt_checks.specs.Elements.{signs_in}
use Rattle.wt_checks.specs.Groups.{is_marked, have_mark}
use Rattle.wt_checks.specs.Kept.{IsSublist, kept_under, GroupAsItWas, NodeAsItWas, GroupKept, NodeKept, MarkKept, Kept}
use Rattle.wt_checks.specs.Places.{Place, placed, all_placed, places, number, kind_at, is_kept, is_body, is_content, numbered, Page, page_of, parent_below}
use Rattle.wt_checks.specs.Unmarked.{is_compared, entry_by, entry, entries}
use Rattle.wt_checks.proofs.Found.{Itself, each_itself}
use Rattle.wt_checks.proofs.InOrder.{test_equal}
use Rattle.wt_checks.proofs.Lookups.{each_split, each_join, AllZero, all_page_numbers}
use Rattle.wt_checks.proofs.WhatIsKept.{increasing, unrefused}
use Rattle.wt_commands.proofs.ReadGroups.{group_read, group_new, inners_unmarked, IsNew, no_body}

-- ---- a place of what is read

-- the node is as it was in the page, and has no mark
pub record IsAgain (page : Page) (p : Place) : Type 0 where
  pub group : GroupKept false page p
  pub node : NodeKept page p
  pub unmarked : (label p.node).mark ≡ mark.Nothing

pub true_is : (b : Bool) → b ≡ false → b ≡ true → ⊥
true_is true e f = absurd (cc)
true_is false e f = absurd (cc)

either_false : (a b : Bool) → a ≡ false → b ≡ false → (a || b) ≡ true → ⊥
either_false true b e f h = absurd (cc)
either_false false b e f h = true_is b f h

new_again : (page : Page) (p : Place) → IsNew p → IsAgain page p
new_again page p h = record {
  group = λ k. absurd (true_is (is_kept p) h.unkept k);
  node = λ o c. absurd (either_false (is_kept p) (is_body (kind_at p)) h.unkept h.other o);
  unmarked = h.unmarked;
}

all_new_again : (page : Page) (ps : List Place) → AllByRecursion IsNew ps → AllByRecursion (IsAgain page) ps
all_new_again page [] h = tt
all_new_again page (p ∷ ps) h = (new_again page p h.0, all_new_again page ps h.1)

-- what is found is as it was
found_group : (values : Bool) (o : Option Place) (q : Place) (u : Tree) → o ≡ Some q
    → (is_group (kind_at q) ≡ true → GroupAsItWas values q.node u)
    → MatchOption o (Unit {0}) (λ r. is_group (kind_at r) ≡ true → GroupAsItWas values r.node u)
found_group values o q u e h = subst (λ x. MatchOption x (Unit {0}) (λ r. is_group (kind_at r) ≡ true → GroupAsItWas values r.node u)) (sym e) h

found_node : (o : Option Place) (q : Place) (u : Tree) → o ≡ Some q → (is_group (kind_at q) ≡ false → NodeAsItWas q.node u)
    → MatchOption o (Unit {0}) (λ r. is_group (kind_at r) ≡ false → NodeAsItWas r.node u)
found_node o q u e h = subst (λ x. MatchOption x (Unit {0}) (λ r. is_group (kind_at r) ≡ false → NodeAsItWas r.node u)) (sym e) h

-- ---- what a node holds

entry_read : (w : Writing) (l : Label) → entry_by w (label_read l) ≡ entry_by w l
entry_read AsText l = refl
entry_read AsVoid l = refl
entry_read RoundCharacter l = refl
entry_read RoundChildren l = refl
entry_read (AsSection n) l = refl
entry_read Unwritten l = refl

entries_read : (ts : Trees) → entries (unranged_all ts) ≡ entries ts
entries_read none = refl
entries_read (more (tree l us) ts) =
    ap (λ x. if is_compared (showing l.kind) then x ∷ entries (unranged_all ts) else entries (unranged_all ts)) (entry_read (writing l.kind) l)
    ∙ ap (λ xs. if is_compared (showing l.kind) then entry l ∷ xs else xs) (entries_read ts)

-- no section is written in another node, so none is opened there
no_section : (j : Kind) (k : ℕ) (parent : Kind) (l : Label) (childless : Bool) (inside group : Type 0)
    → NodeIsWritten (writing j) k parent l childless inside group → is_section j ≡ false
no_section (kind.Section n) k parent l childless inside group h = absurd h
no_section j k parent l childless inside group h = refl

none_section : (ts : Trees) (k : ℕ) (parent : Kind) → AllWrittenIn k parent ts → NoneIsSection ts
none_section none k parent h = tt
none_section (more (tree l us) ts) k parent h = (
  no_section l.kind k parent l (is_childless us) (IsCutIn (texts_of_kind l.kind) us × AllWrittenIn (suc k) l.kind us)
      (IsWrittenGroup k parent l us) h.0,
  none_section ts k parent h.2,
)

none_opened : (ts : Trees) → NoneIsSection ts → opened ts ≡ ts
none_opened none h = refl
none_opened (more (tree l us) ts) h =
    ap (λ v. if v then all_opened_before us (opened ts) else more (tree l us) (opened ts)) h.0
    ∙ ap (λ vs. more (tree l us) vs) (none_opened ts h.1)

same_node : (l : Label) (ts : Trees) → NoneIsSection ts → NodeAsItWas (tree l ts) (tree (label_read l) (unranged_all ts))
same_node l ts h = record {
  kind = refl;
  attrs = refl;
  mw = inr refl;
  holds = inr (record { character = refl; held = ap entries (none_opened ts h) ∙ sym (entries_read ts) });
}

-- ---- nodes by how they are written

pub text_kind : (k : Kind) → writing k ≡ AsText → (is_group k ≡ false) × (is_body k ≡ false)
text_kind kind.Body e = absurd cc
text_kind kind.Group e = absurd cc
text_kind k e = (refl, refl)

pub no_group : (k : Kind) → is_somewhere (shape k).class ≡ true → is_group k ≡ false
no_group kind.Group e = absurd cc
no_group k e = refl

pub group_no_body : (k : Kind) → k ≡ kind.Group → (is_group k ≡ true) × (is_body k ≡ false)
group_no_body k e = (ap is_group e, ap is_body e)

either_left : (a b : Bool) → b ≡ false → (a || b) ≡ true → a ≡ true
either_left true b e h = refl
either_left false b e h = absurd (true_is b e h)

unkept_zero : (n : ℕ) → n ≡ 0 → not (n == 0) ≡ false
unkept_zero n e = ap (λ m. not (m == 0)) e

abbrev place_read : ℕ → Bool → Label → Trees → Place
place_read n within l us = record { node = tree (label_read l) us; parent = n; in_content = within }

abbrev place_of : ℕ → Bool → Label → Trees → Place
place_of n within l ts = record { node = tree l ts; parent = n; in_content = within }

childless_again : (ts : Trees) (page : Page) (n : ℕ) (within : Bool) → is_childless ts ≡ true
    → AllByRecursion (IsAgain page) (all_placed n within (unranged_all ts))
childless_again none page n within e = tt
childless_again (more t ts) page n within e = absurd (cc)

-- what is read of a node that is no group
others_again : (l : Label) (ts : Trees) (page : Page) (n : ℕ) (within : Bool) → is_group l.kind ≡ false
    → IsAgain page (place_read n within l (unranged_all ts))
    → AllByRecursion (IsAgain page) (all_placed (parent_below n l.id) (within || is_content l.mark) (unranged_all ts))
    → AllByRecursion (IsAgain page) (placed n within (unranged (tree l ts)))
others_again l ts page n within g h i = subst (λ u. AllByRecursion (IsAgain page) (placed n within u)) (sym (others_read l ts g)) (h, i)

text_again : (l : Label) (ts : Trees) (parent : Kind) (page : Page) (n : ℕ) (within : Bool) → writing l.kind ≡ AsText
    → IsTextIn parent l × (is_childless ts ≡ true) → AllByRecursion (IsAgain page) (placed n within (unranged (tree l ts)))
text_again l ts parent page n within e h =
    others_again l ts page n within (text_kind l.kind e).0
    (new_again page (place_read n within l (unranged_all ts)) (record {
      unkept = unkept_zero l.id h.0.id;
      other = (text_kind l.kind e).1;
      unmarked = h.0.mark;
    }))
    (childless_again ts page (parent_below n l.id) (within || is_content l.mark) h.1)

element_again : (l : Label) (ts : Trees) (page : Page) (n : ℕ) (within : Bool) → is_somewhere (shape l.kind).class ≡ true → IsElementLabel l
    → Itself page (place_of n within l ts) → NoneIsSection ts
    → AllByRecursion (IsAgain page) (all_placed (parent_below n l.id) (within || is_content l.mark) (unranged_all ts))
    → AllByRecursion (IsAgain page) (placed n within (unranged (tree l ts)))
element_again l ts page n within w h s alone i =
    let p : Place = place_read n within l (unranged_all ts) in
    let u : Tree = tree (label_read l) (unranged_all ts) in
    others_again l ts page n within (no_group l.kind w)
    (record {
      group = λ k. found_group false (page l.id) (place_of n within l ts) u (s k) (λ g. absurd (true_is (is_group l.kind) (no_group l.kind w) g));
      node = λ o c. found_node (page l.id) (place_of n within l ts) u (s (either_left (is_kept p) (is_body l.kind) (no_body l.kind w) o))
          (λ g. same_node l ts alone);
      unmarked = h.mark;
    }) i

pub group_held : (l : Label) (ts : Trees) → is_group l.kind ≡ true → unranged (tree l ts) ≡ tree (label_read l) (group_nodes ts)
group_held l ts e = ap (λ x. tree (label_read l) (if x then group_nodes ts else unranged_all ts)) e

unmarked_is : (m : Mark) → m ≡ mark.Nothing → is_marked m ≡ false
unmarked_is m e = ap is_marked e

group_again : (l : Label) (ts : Trees) (k : ℕ) (parent : Kind) (page : Page) (n : ℕ) (within : Bool) → IsWrittenGroup k parent l ts
    → Itself page (place_of n within l ts) → AllByRecursion (IsAgain page) (placed n within (unranged (tree l ts)))
group_again l ts k parent page n within h s =
    let p : Place = place_read n within l (group_nodes ts) in
    let u : Tree = tree (label_read l) (group_nodes ts) in
    let g = group_no_body l.kind h.label.kind in
    subst (λ x. AllByRecursion (IsAgain page) (placed n within x)) (sym (group_held l ts g.0)) (
      (record {
        group = λ o. found_group false (page l.id) (place_of n within l ts) u (s o) (λ y. record {
          unmarked = ap (λ b. b || have_mark (group_nodes ts)) (unmarked_is l.mark h.label.mark) ∙ inners_unmarked (elements_for ts);
          group = y;
          attrs = refl;
          elements = ap signs_in (sym (group_read ts k parent h.elements));
          mw = inr refl;
        });
        node = λ o c. found_node (page l.id) (place_of n within l ts) u (s (either_left (is_kept p) (is_body l.kind) g.1 o))
            (λ y. absurd (true_is (is_group l.kind) y g.0));
        unmarked = h.label.mark;
      }),
      all_new_again page (all_placed (parent_below n l.id) (within || is_content l.mark) (group_nodes ts))
          (group_new ts k parent (parent_below n l.id) (within || is_content l.mark) h.elements),
    )

node_by : (w : Writing) (l : Label) (ts : Trees) (k : ℕ) (parent : Kind) (page : Page) (n : ℕ) (within : Bool) (Cut Inside : Type 0)
    → writing l.kind ≡ w → NodeIsWritten w k parent l (is_childless ts) (Cut × Inside) (IsWrittenGroup k parent l ts)
    → Itself page (place_of n within l ts) → (Inside → NoneIsSection ts)
    → (Inside → AllByRecursion (IsAgain page) (all_placed (parent_below n l.id) (within || is_content l.mark) (unranged_all ts)))
    → AllByRecursion (IsAgain page) (placed n within (unranged (tree l ts)))
node_by AsText l ts k parent page n within Cut Inside e h s v f = text_again l ts parent page n within e h
node_by AsVoid l ts k parent page n within Cut Inside e h s v f = element_again l ts page n within (held parent l.kind h.1 h.2.element) h.2 s (v h.4.1) (f h.4.1)
node_by RoundCharacter l ts k parent page n within Cut Inside e h s v f = element_again l ts page n within (held parent l.kind h.1 h.2.element) h.2 s (v h.4.1) (f h.4.1)
node_by RoundChildren l ts k parent page n within Cut Inside e h s v f = element_again l ts page n within (held parent l.kind h.1 h.2.element) h.2 s (v h.4.1) (f h.4.1)
node_by (AsSection s) l ts k parent page n within Cut Inside e h r v f = absurd h
node_by Unwritten l ts k parent page n within Cut Inside e h s v f = group_again l ts k parent page n within h s

mutual
  node_again : (t : Tree) (k : ℕ) (parent : Kind) (page : Page) (n : ℕ) (within : Bool) → WrittenIn k parent t
      → AllByRecursion (Itself page) (placed n within t) → AllByRecursion (IsAgain page) (placed n within (unranged t))
  node_again (tree l ts) k parent page n within h s =
      node_by (writing l.kind) l ts k parent page n within _ (AllWrittenIn (suc k) l.kind ts) refl h s.0 (none_section ts (suc k) l.kind)
      (λ w. nodes_again ts (suc k) l.kind page (parent_below n l.id) (within || is_content l.mark) w s.1)

  nodes_again : (ts : Trees) (k : ℕ) (parent : Kind) (page : Page) (n : ℕ) (within : Bool) → AllWrittenIn k parent ts
      → AllByRecursion (Itself page) (all_placed n within ts) → AllByRecursion (IsAgain page) (all_placed n within (unranged_all ts))
  nodes_again none k parent page n within h s = tt
  nodes_again (more t ts) k parent page n within h s =
      let a = each_split (Itself page) (placed n within t) (all_placed n within ts) s in
      each_join (IsAgain page) (placed n within (unranged t)) (all_placed n within (unranged_all ts))
      (node_again t k parent page n within h.0 a.0) (nodes_again ts k parent page n within h.2 a.1)

-- ---- the whole page

root_again : (l : Label) (ts : Trees) (page : Page) → l.kind ≡ kind.Body → IsElementLabel l → l.id ≡ 0
    → page 0 ≡ Some (place_of 0 false l ts) → NoneIsSection ts → IsAgain page (place_read 0 false l (unranged_all ts))
root_again l ts page b h z r alone = record {
  group = λ k. absurd (true_is (not (l.id == 0)) (unkept_zero l.id z) k);
  node = λ o c. found_node (page l.id) (place_of 0 false l ts) (tree (label_read l) (unranged_all ts)) (ap page z ∙ r) (λ g. same_node l ts alone);
  unmarked = h.mark;
}

-- the first place is the root's
found_root : (l : Label) (ts : Trees) → l.id ≡ 0 → page_of (tree l ts) 0 ≡ Some (place_of 0 false l ts)
found_root l ts e =
    ap (λ b. if b then Some (place_of 0 false l ts) else numbered 0 (all_placed (parent_below 0 l.id) (is_content l.mark) ts)) (test_equal l.id 0 e)

pub page_again : (t : Tree) → IsWrittenBody t → InPreorder t → AllByRecursion (IsAgain (page_of t)) (places (unranged t))
page_again (tree l ts) w i =
    let s : AllByRecursion (Itself (page_of (tree l ts))) (places (tree l ts)) = each_itself (places (tree l ts)) (increasing (tree l ts) w.0 i) in
    let z : l.id ≡ 0 = (all_page_numbers (tree l ts) w.0 i).root in
    others_again l ts (page_of (tree l ts)) 0 false (ap is_group w.0)
    (root_again l ts (page_of (tree l ts)) w.0 w.1 z (found_root l ts z) (none_section ts 8 kind.Body w.2))
    (nodes_again ts 8 kind.Body (page_of (tree l ts)) (parent_below 0 l.id) (is_content l.mark) w.2 s.1)

-- ---- kept nodes in their order

under_join : (m : ℕ) (ps qs : List Place) → kept_under m (ps ++ qs) ≡ kept_under m ps ++ kept_under m qs
under_join m [] qs = refl
under_join m (p ∷ ps) qs =
    join_by (is_kept p && p.parent == m) (number p) (kept_under m (ps ++ qs)) (kept_under m ps) (kept_under m qs) (under_join m ps qs)
  where
    join_by : (b : Bool) (n : ℕ) (all xs ys : List ℕ) → all ≡ xs ++ ys
        → (if b then n ∷ all else all) ≡ (if b then n ∷ xs else xs) ++ ys
    join_by true n all xs ys e = ap (λ zs. n ∷ zs) e
    join_by false n all xs ys e = e

under_first : (m : ℕ) (p : Place) (ps : List Place) → number p ≡ 0 → kept_under m (p ∷ ps) ≡ kept_under m ps
under_first m p ps e = ap (λ b. if b && p.parent == m then number p ∷ kept_under m ps else kept_under m ps) (unkept_zero (number p) e)

mutual
  none_under : (m n : ℕ) (within : Bool) (t : Tree) → AllZero (ids t) → kept_under m (placed n within t) ≡ []
  none_under m n within (tree l ts) z =
      under_first m (place_of n within l ts) (all_placed (parent_below n l.id) (within || is_content l.mark) ts) z.0
      ∙ all_none_under m (parent_below n l.id) (within || is_content l.mark) ts z.1

  all_none_under : (m n : ℕ) (within : Bool) (ts : Trees) → AllZero (ids_of_all ts) → kept_under m (all_placed n within ts) ≡ []
  all_none_under m n within none z = refl
  all_none_under m n within (more t ts) z =
      let y = each_split (λ k. k ≡ 0) (ids t) (ids_of_all ts) z in
      under_join m (placed n within t) (all_placed n within ts)
      ∙ ap (λ xs. xs ++ kept_under m (all_placed n within ts)) (none_under m n within t y.0)
      ∙ all_none_under m n within ts y.1

mutual
  inner_zero : (p : Plain) → AllZero (ids (inner_node p))
  inner_zero (text bs) = (refl, tt)
  inner_zero (element f qs) = (refl, inners_zero qs)

  inners_zero : (ps : Plains) → AllZero (ids_of_all (inner_nodes ps))
  inners_zero ended = tt
  inners_zero (along p ps) = each_join (λ k. k ≡ 0) (ids (inner_node p)) (ids_of_all (inner_nodes ps)) (inner_zero p) (inners_zero ps)

inner_by : (n g : Bool) (id : ℕ) (ts : Trees) → AllZero ((if n then [] else id ∷ []) ++ (if g then ids_of_all ts else others_of_all ts))
    → AllZero (if g then ids_of_all ts else others_of_all ts)
inner_by true g id ts z = z
inner_by false g id ts z = z.1

held_under : (g : Bool) (m n : ℕ) (within : Bool) (ts : Trees) → AllZero (if g then ids_of_all ts else others_of_all ts)
    → (AllZero (others_of_all ts) → kept_under m (all_placed n within (unranged_all ts)) ≡ kept_under m (all_placed n within ts))
    → kept_under m (all_placed n within (if g then group_nodes ts else unranged_all ts)) ≡ kept_under m (all_placed n within ts)
held_under true m n within ts z f = all_none_under m n within (group_nodes ts) (inners_zero (elements_for ts)) ∙ sym (all_none_under m n within ts z)
held_under false m n within ts z f = f z

mutual
  same_under : (m n : ℕ) (within : Bool) (t : Tree) → AllZero (others t)
      → kept_under m (placed n within (unranged t)) ≡ kept_under m (placed n within t)
  same_under m n within (tree l ts) z =
      ap (λ xs. if not (l.id == 0) && n == m then l.id ∷ xs else xs)
      (held_under (is_group l.kind) m (parent_below n l.id) (within || is_content l.mark) ts (inner_by (is_numbered l.kind) (is_group l.kind) l.id ts z)
      (λ y. all_same_under m (parent_below n l.id) (within || is_content l.mark) ts y))

  all_same_under : (m n : ℕ) (within : Bool) (ts : Trees) → AllZero (others_of_all ts)
      → kept_under m (all_placed n within (unranged_all ts)) ≡ kept_under m (all_placed n within ts)
  all_same_under m n within none z = refl
  all_same_under m n within (more t ts) z =
      let y = each_split (λ k. k ≡ 0) (others t) (others_of_all ts) z in
      under_join m (placed n within (unranged t)) (all_placed n within (unranged_all ts))
      ∙ ap (λ xs. xs ++ kept_under m (all_placed n within (unranged_all ts))) (same_under m n within t y.0)
      ∙ ap (λ xs. kept_under m (placed n within t) ++ xs) (all_same_under m n within ts y.1)
      ∙ sym (under_join m (placed n within t) (all_placed n within ts))

sublist_same : (xs : List ℕ) → IsSublist xs xs
sublist_same [] = tt
sublist_same (x ∷ xs) = inl (refl, sublist_same xs)

-- ---- all is kept

groups_of : (page : Page) (ps : List Place) → AllByRecursion (IsAgain page) ps → AllByRecursion (GroupKept false page) ps
groups_of page [] h = tt
groups_of page (p ∷ ps) h = (h.0.group, groups_of page ps h.1)

nodes_of : (page : Page) (ps : List Place) → AllByRecursion (IsAgain page) ps → AllByRecursion (NodeKept page) ps
nodes_of page [] h = tt
nodes_of page (p ∷ ps) h = (h.0.node, nodes_of page ps h.1)

marks_of : (page : Page) (ps : List Place) → AllByRecursion (IsAgain page) ps → AllByRecursion (MarkKept page) ps
marks_of page [] h = tt
marks_of page (p ∷ ps) h = (
  λ m. absurd (true_is (is_marked (label p.node).mark) (unmarked_is (label p.node).mark h.0.unmarked) m),
  marks_of page ps h.1,
)

body_kind : (t : Tree) → IsWrittenBody t → (label t).kind ≡ kind.Body
body_kind (tree l ts) w = w.0

unchanged_kept : (t : Tree) → IsWrittenBody t → InPreorder t → Kept false t (unranged t)
unchanged_kept t w i =
    let a = page_again t w i in
    record {
      order = λ m. subst (λ xs. IsSublist (kept_under m (places (unranged t))) xs)
          (same_under m 0 false t (all_page_numbers t (body_kind t w) i).unnumbered) (sublist_same (kept_under m (places (unranged t))));
      groups = groups_of (page_of t) (places (unranged t)) a;
      nodes = nodes_of (page_of t) (places (unranged t)) a;
      marks = marks_of (page_of t) (places (unranged t)) a;
    }

-- the checks find nothing
pub unchanged_checked : (t : Tree) → IsWrittenBody t → InPreorder t → checked false t (unranged t) ≡ None
unchanged_checked t w i = unrefused false t (unranged t) (body_kind t w) i (unchanged_kept t w i)
