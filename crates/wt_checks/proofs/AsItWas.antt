-- The tests of groups, of nodes and of marks, as equations.
use Rattle.std.proofs.Common.{◌≡◌, Bool, true, false, List, [], ◌∷◌, ◌++◌, refl, ap, inl, inr, ◌⊎◌}
use Rattle.std.specs.Prelude.{◌&&◌, ◌||◌, not, Option, Some, None, MatchOption}
use Rattle.std.specs.List.{AllByRecursion}
use Rattle.std.specs.Str.{bytes_eq}
use Rattle.std.proofs.lemmas.Slice.Eq.{bytes_eq-Decides}
use Rattle.wt_tree.specs.declared.node.DataMw.{DataMw}
use Rattle.wt_tree.specs.Kinds.{writing}
use Rattle.wt_tree.specs.Opened.{opened}
use Rattle.wt_tree.specs.Tiling.{is_group}
use Rattle.wt_tree.specs.Tree.{Tree, tree, label}
use Rattle.wt_checks.specs.Alike.{same_kind, same_attrs, same_data}
use Rattle.wt_checks.specs.Elements.{written_for, all_read, signs_in}
use Rattle.wt_checks.specs.Groups.{is_marked, has_mark, same_signs, shows_same, carries_same, is_changed_group, is_in_template}
use Rattle.wt_checks.specs.Kept.{GroupAsItWas, HoldsTheSame, NodeAsItWas, is_of_page, GroupKept, NodeKept, MarkKept}
use Rattle.wt_checks.specs.Marks.{editing, allows, is_wrongly_marked}
use Rattle.wt_checks.specs.Places.{Place, number, kind_at, is_kept, Condition, Page}
use Rattle.wt_checks.specs.Unmarked.{own_character, entries, same_entries, holds_same, keeps_data, keeps_face, keeps_children, is_other, is_unmarked_change}
use Rattle.wt_checks.proofs.Compares.{kinds_decide, attrs_decide, data_decide, entries_decide, signs_decide}
use Rattle.wt_checks.proofs.InOrder.{Nowhere}

-- ---- a condition of a place alone

pub each_place : (C : Condition) (P : Place → Type 0)
    → ((before : List Place) (p : Place) (after : List Place) → C before p after ≡ false → P p) → (before ps : List Place)
    → Nowhere C before ps → AllByRecursion P ps
each_place C P f before [] h = tt
each_place C P f before (p ∷ ps) h = (f before p ps h.0, each_place C P f (before ++ p ∷ []) ps h.1)

pub no_place : (C : Condition) (P : Place → Type 0)
    → ((before : List Place) (p : Place) (after : List Place) → P p → C before p after ≡ false) → (before ps : List Place)
    → AllByRecursion P ps → Nowhere C before ps
no_place C P f before [] h = tt
no_place C P f before (p ∷ ps) h = (f before p ps h.0, no_place C P f (before ++ p ∷ []) ps h.1)

-- ---- tests

pub both : (a b : Bool) → (a && b) ≡ true → (a ≡ true) × (b ≡ true)
both true b e = (refl, e)
both false b e = absurd (cc)

of_both : (a b : Bool) → a ≡ true → b ≡ true → (a && b) ≡ true
of_both true b e f = f
of_both false b e f = absurd (cc)

either : (a b : Bool) → (a || b) ≡ true → (a ≡ true) ⊎ (b ≡ true)
either true b e = inl refl
either false b e = inr e

of_either : (a b : Bool) → (a ≡ true) ⊎ (b ≡ true) → (a || b) ≡ true
of_either true b e = refl
of_either false true e = refl
of_either false false (inl e) = e
of_either false false (inr e) = e

-- `a` implies `b`
test_implies : (a b : Bool) → (a && not b) ≡ false → a ≡ true → b ≡ true
test_implies true true e f = refl
test_implies true false e f = absurd (cc)
test_implies false b e f = absurd (cc)

implies_test : (a b : Bool) → (a ≡ true → b ≡ true) → (a && not b) ≡ false
implies_test true true f = refl
implies_test true false f = let e : false ≡ true = f refl in absurd (cc)
implies_test false b f = refl

is_false : (b : Bool) → not b ≡ true → b ≡ false
is_false true e = absurd (cc)
is_false false e = refl

is_true : (b : Bool) → not b ≡ false → b ≡ true
is_true true e = refl
is_true false e = absurd (cc)

test_and : (a b : Bool) → (a && b) ≡ false → a ≡ true → b ≡ false
test_and true b e f = e
test_and false b e f = absurd (cc)

and_test : (a b : Bool) → (a ≡ true → b ≡ false) → (a && b) ≡ false
and_test true b f = f refl
and_test false b f = refl

neither : (a b : Bool) → (a || b) ≡ false → (a ≡ false) × (b ≡ false)
neither true b e = absurd (cc)
neither false b e = (refl, e)

of_neither : (a b : Bool) → a ≡ false → b ≡ false → (a || b) ≡ false
of_neither true b e f = absurd (cc)
of_neither false b e f = f

-- ---- groups

group_is : (values : Bool) (t u : Tree) → (has_mark u || not (shows_same t u && carries_same values t u)) ≡ false → GroupAsItWas values t u
group_is values (tree l ts) (tree m us) e =
    let n = neither (has_mark (tree m us)) (not (shows_same (tree l ts) (tree m us) && carries_same values (tree l ts) (tree m us))) e in
    let b = both (shows_same (tree l ts) (tree m us)) (carries_same values (tree l ts) (tree m us))
    (is_true (shows_same (tree l ts) (tree m us) && carries_same values (tree l ts) (tree m us)) n.1) in
    let c = both (is_group m.kind) (same_attrs l.attrs m.attrs && same_signs (signs_in (written_for ts)) (signs_in (all_read us))) b.0 in
    let d = both (same_attrs l.attrs m.attrs) (same_signs (signs_in (written_for ts)) (signs_in (all_read us))) c.1 in
    record {
      unmarked = n.0;
      group = c.0;
      attrs = (attrs_decide l.attrs m.attrs).0 d.0;
      elements = (signs_decide (signs_in (written_for ts)) (signs_in (all_read us))).0 d.1;
      mw = elim (either values (same_data l.mw m.mw) b.1) [ inl v ↦ inl v | inr s ↦ inr ((data_decide l.mw m.mw).0 s) ];
    }

is_group_test : (values : Bool) (t u : Tree) → GroupAsItWas values t u → (has_mark u || not (shows_same t u && carries_same values t u)) ≡ false
is_group_test values (tree l ts) (tree m us) g =
    of_neither (has_mark (tree m us)) (not (shows_same (tree l ts) (tree m us) && carries_same values (tree l ts) (tree m us))) g.unmarked
    (ap not (of_both (shows_same (tree l ts) (tree m us)) (carries_same values (tree l ts) (tree m us))
    (of_both (is_group m.kind) (same_attrs l.attrs m.attrs && same_signs (signs_in (written_for ts)) (signs_in (all_read us))) g.group
    (of_both (same_attrs l.attrs m.attrs) (same_signs (signs_in (written_for ts)) (signs_in (all_read us)))
    ((attrs_decide l.attrs m.attrs).1 g.attrs) ((signs_decide (signs_in (written_for ts)) (signs_in (all_read us))).1 g.elements)))
    (of_either values (same_data l.mw m.mw) (elim g.mw [ inl v ↦ inl v | inr s ↦ inr ((data_decide l.mw m.mw).1 s) ]))))

group_of : (values : Bool) (o : Option Place) (u : Tree) → is_changed_group values o u ≡ false
    → MatchOption o (Unit {0}) (λ q. is_group (kind_at q) ≡ true → GroupAsItWas values q.node u)
group_of values None u e = tt
group_of values (Some q) u e = λ g. group_is values q.node u
    (test_and (is_group (kind_at q)) (has_mark u || not (shows_same q.node u && carries_same values q.node u)) e g)

of_group : (values : Bool) (o : Option Place) (u : Tree)
    → MatchOption o (Unit {0}) (λ q. is_group (kind_at q) ≡ true → GroupAsItWas values q.node u) → is_changed_group values o u ≡ false
of_group values None u h = refl
of_group values (Some q) u h = and_test (is_group (kind_at q))
    (has_mark u || not (shows_same q.node u && carries_same values q.node u)) (λ g. is_group_test values q.node u (h g))

pub group_kept : (values : Bool) (page : Page) (before : List Place) (p : Place) (after : List Place)
    → is_in_template values page before p after ≡ false → GroupKept values page p
group_kept values page before p after e = λ k. group_of values (page (number p)) p.node
    (test_and (is_kept p) (is_changed_group values (page (number p)) p.node) e k)

pub kept_group : (values : Bool) (page : Page) (before : List Place) (p : Place) (after : List Place) → GroupKept values page p
    → is_in_template values page before p after ≡ false
kept_group values page before p after h = and_test (is_kept p) (is_changed_group values (page (number p)) p.node)
    (λ k. of_group values (page (number p)) p.node (h k))

-- ---- other nodes

data_is : (c d : Option DataMw) → keeps_data c d ≡ true → (c ≡ None) ⊎ (c ≡ d)
data_is None d e = inl refl
data_is (Some c) d e = inr ((data_decide (Some c) d).0 e)

is_data : (c d : Option DataMw) → (c ≡ None) ⊎ (c ≡ d) → keeps_data c d ≡ true
is_data None d e = refl
is_data (Some c) d (inl e) = absurd (cc)
is_data (Some c) d (inr e) = (data_decide (Some c) d).1 e

holds_is : (t u : Tree) → holds_same t u ≡ true → HoldsTheSame t u
holds_is (tree l ts) (tree m us) e =
    let b = both (bytes_eq (own_character (writing l.kind) l.shown) (own_character (writing m.kind) m.shown)) (same_entries (entries (opened ts)) (entries us)) e in
    record {
      character = (bytes_eq-Decides (own_character (writing l.kind) l.shown) (own_character (writing m.kind) m.shown)).0 b.0;
      held = (entries_decide (entries (opened ts)) (entries us)).0 b.1;
    }

is_holding : (t u : Tree) → HoldsTheSame t u → holds_same t u ≡ true
is_holding (tree l ts) (tree m us) h =
    of_both (bytes_eq (own_character (writing l.kind) l.shown) (own_character (writing m.kind) m.shown)) (same_entries (entries (opened ts)) (entries us))
    ((bytes_eq-Decides (own_character (writing l.kind) l.shown) (own_character (writing m.kind) m.shown)).1 h.character)
    ((entries_decide (entries (opened ts)) (entries us)).1 h.held)

node_is : (t u : Tree) → not (keeps_face (label t) (label u) && keeps_children t u) ≡ false → NodeAsItWas t u
node_is t u e =
    let l = label t in
    let m = label u in
    let b = both (keeps_face l m) (keeps_children t u) (is_true (keeps_face l m && keeps_children t u) e) in
    let c = both (same_kind l.kind m.kind) (same_attrs l.attrs m.attrs && keeps_data l.mw m.mw) b.0 in
    let d = both (same_attrs l.attrs m.attrs) (keeps_data l.mw m.mw) c.1 in
    record {
      kind = (kinds_decide l.kind m.kind).0 c.0;
      attrs = (attrs_decide l.attrs m.attrs).0 d.0;
      mw = data_is l.mw m.mw d.1;
      holds = elim (either (is_marked m.mark) (holds_same t u) b.1) [ inl v ↦ inl v | inr s ↦ inr (holds_is t u s) ];
    }

is_node : (t u : Tree) → NodeAsItWas t u → not (keeps_face (label t) (label u) && keeps_children t u) ≡ false
is_node t u h =
    let l = label t in
    let m = label u in
    ap not (of_both (keeps_face l m) (keeps_children t u)
    (of_both (same_kind l.kind m.kind) (same_attrs l.attrs m.attrs && keeps_data l.mw m.mw) ((kinds_decide l.kind m.kind).1 h.kind)
    (of_both (same_attrs l.attrs m.attrs) (keeps_data l.mw m.mw) ((attrs_decide l.attrs m.attrs).1 h.attrs) (is_data l.mw m.mw h.mw)))
    (of_either (is_marked m.mark) (holds_same t u) (elim h.holds [ inl v ↦ inl v | inr s ↦ inr (is_holding t u s) ])))

node_of : (o : Option Place) (u : Tree) → is_other o u ≡ false → MatchOption o (Unit {0}) (λ q. is_group (kind_at q) ≡ false → NodeAsItWas q.node u)
node_of None u e = tt
node_of (Some q) u e = λ g. node_is q.node u (test_and (not (is_group (kind_at q)))
    (not (keeps_face (label q.node) (label u) && keeps_children q.node u)) e (ap not g))

of_node : (o : Option Place) (u : Tree) → MatchOption o (Unit {0}) (λ q. is_group (kind_at q) ≡ false → NodeAsItWas q.node u) → is_other o u ≡ false
of_node None u h = refl
of_node (Some q) u h = and_test (not (is_group (kind_at q)))
    (not (keeps_face (label q.node) (label u) && keeps_children q.node u)) (λ g. is_node q.node u (h (is_false (is_group (kind_at q)) g)))

pub node_kept : (page : Page) (before : List Place) (p : Place) (after : List Place) → is_unmarked_change page before p after ≡ false → NodeKept page p
node_kept page before p after e =
    λ k c. node_of (page (number p)) p.node (test_and (not p.in_content) (is_other (page (number p)) p.node)
    (test_and (is_of_page p) (not p.in_content && is_other (page (number p)) p.node) e k) (ap not c))

pub kept_node : (page : Page) (before : List Place) (p : Place) (after : List Place) → NodeKept page p → is_unmarked_change page before p after ≡ false
kept_node page before p after h =
    and_test (is_of_page p) (not p.in_content && is_other (page (number p)) p.node)
    (λ k. and_test (not p.in_content) (is_other (page (number p)) p.node) (λ c. of_node (page (number p)) p.node (h k (is_false p.in_content c))))

-- ---- marks

abbrev allowed : Page → Place → Bool
allowed page p = allows (editing (kind_at p)) (label p.node).mark (page (number p))

pub mark_kept : (page : Page) (before : List Place) (p : Place) (after : List Place) → is_wrongly_marked page before p after ≡ false → MarkKept page p
mark_kept page before p after e =
    λ k. let n = neither p.in_content (not (is_of_page p) || not (allowed page p))
    (test_and (is_marked (label p.node).mark) (p.in_content || (not (is_of_page p) || not (allowed page p))) e k) in
    let m = neither (not (is_of_page p)) (not (allowed page p)) n.1 in
    record { outside = n.0; old = is_true (is_of_page p) m.0; allowed = is_true (allowed page p) m.1 }

pub kept_mark : (page : Page) (before : List Place) (p : Place) (after : List Place) → MarkKept page p → is_wrongly_marked page before p after ≡ false
kept_mark page before p after h =
    and_test (is_marked (label p.node).mark) (p.in_content || (not (is_of_page p) || not (allowed page p)))
    (λ k. let w = h k in
    of_neither p.in_content (not (is_of_page p) || not (allowed page p)) w.outside
    (of_neither (not (is_of_page p)) (not (allowed page p)) (ap not w.old) (ap not w.allowed)))
