-- What is found of a page's tree is what its nodes are.
use Rattle.std.proofs.Common.{◌≡◌, ◌≢◌, ◌⊎◌, ℕ, zero, suc, Bool, true, false, Some, None, List, [], ◌∷◌, ◌++◌, refl, sym, ap, ◌∙◌, subst, inl, inr, arith, true≢false, eq-eqb}
use Rattle.std.specs.Prelude.{◌==◌, ◌&&◌, ◌||◌, not, if◌then◌else◌, slice_get, slice_index, Option}
use Rattle.std.specs.List.{flat_map}
use Rattle.std.proofs.lemmas.Bool.Decides.{nat_tests}
use Rattle.wt_span.specs.Characters as byte
use Rattle.wt_tree.specs.declared.kind.Kind.{Kind}
use Rattle.wt_tree.specs.declared.kind.Kind.TheVariants as kind
use Rattle.wt_tree.specs.declared.kind.Ranges.{Ranges}
use Rattle.wt_tree.specs.Tiling.{is_group as is_group_kind}
use Rattle.wt_tree.specs.Tree.{Label, Tree, tree, Trees, none, more}
use Rattle.wt_annotated.specs.Slices.{slice}
use Rattle.wt_lint.specs.declared.finding.Kind.{Kind as Doubt}
use Rattle.wt_lint.specs.declared.finding.Kind.TheVariants as doubt
use Rattle.wt_lint.specs.declared.place.Place.{Place}
use Rattle.wt_lint.specs.Findings.{at_ranges, found, found_from, is_empty, is_open_style, is_unclosed, is_unequal, titles_after, whole}
use Rattle.wt_lint.specs.Found.{KindAndRange, Span, as_all}
use Rattle.wt_lint.specs.Kinds.{kinds}
use Rattle.wt_lint.specs.Nodes.{Stand, below, is_group, is_heading, is_island, is_style, is_table, nodes, nodes_in_all, sort_of, start_of, top}
use Rattle.wt_lint.specs.Tags.{is_closing_tag, is_open_tag}
use Rattle.wt_page_laws.specs.Doubtful.{IsFoundAt, IsIn, IsInOne, IsOneOf, IsOpenStyle, IsOpenTable, IsOpenTag, IsStrayTag, IsStyle, IsUnequalHeading}

-- ---- lists

pub in_front : {X : Type 0} (x : X) (xs ys : List X) → IsOneOf x xs → IsOneOf x (xs ++ ys)
in_front x [] ys h = absurd h
in_front x (z ∷ xs) ys (inl e) = inl e
in_front x (z ∷ xs) ys (inr h) = inr (in_front x xs ys h)

pub in_rest : {X : Type 0} (x : X) (xs ys : List X) → IsOneOf x ys → IsOneOf x (xs ++ ys)
in_rest x [] ys h = h
in_rest x (z ∷ xs) ys h = inr (in_rest x xs ys h)

pub in_either : {X : Type 0} (x : X) (xs ys : List X) → IsOneOf x (xs ++ ys) → IsOneOf x xs ⊎ IsOneOf x ys
in_either x [] ys h = inr h
in_either x (z ∷ xs) ys (inl e) = inl (inl e)
in_either x (z ∷ xs) ys (inr h) = elim (in_either x xs ys h) [ inl k ↦ inl (inr k) | inr k ↦ inr k ]

-- ---- one kind among all

as_one : (k : Doubt) (s : Span) (ss : List Span) → IsOneOf s ss → IsOneOf (k, s) (as_all k ss)
as_one k s [] h = absurd h
as_one k s (x ∷ ss) (inl e) = inl (ap (λ (y : Span). (k, y)) e)
as_one k s (x ∷ ss) (inr h) = inr (as_one k s ss h)

of_kind : (k j : Doubt) (s : Span) (ss : List Span) → IsOneOf (k, s) (as_all j ss) → (k ≡ j) × IsOneOf s ss
of_kind k j s [] h = absurd h
of_kind k j s (x ∷ ss) (inl e) = (ap (λ (y : KindAndRange). y.0) e, inl (ap (λ (y : KindAndRange). y.1) e))
of_kind k j s (x ∷ ss) (inr h) = let r = of_kind k j s ss h in (r.0, inr r.1)

pub of_kinds : (k : Doubt) (s : Span) (f : Doubt → List Span) (js : List Doubt) → IsOneOf (k, s) (flat_map (λ j. as_all j (f j)) js) → IsOneOf s (f k)
of_kinds k s f [] h = absurd h
of_kinds k s f (j ∷ js) h =
    elim (in_either (k, s) (as_all j (f j)) (flat_map (λ i. as_all i (f i)) js) h) [
      | inl a ↦ let r = of_kind k j s (f j) a in subst (λ (i : Doubt). IsOneOf s (f i)) (sym r.0) r.1
      | inr b ↦ of_kinds k s f js b
    ]

pub in_kinds : (k : Doubt) (s : Span) (f : Doubt → List Span) (js : List Doubt) → IsOneOf k js → IsOneOf s (f k)
    → IsOneOf (k, s) (flat_map (λ j. as_all j (f j)) js)
in_kinds k s f [] h a = absurd h
in_kinds k s f (j ∷ js) (inl e) a =
    in_front (k, s) (as_all j (f j)) (flat_map (λ i. as_all i (f i)) js)
    (subst (λ (i : Doubt). IsOneOf (k, s) (as_all i (f i))) e (as_one k s (f k) a))
in_kinds k s f (j ∷ js) (inr h) a = in_rest (k, s) (as_all j (f j)) (flat_map (λ i. as_all i (f i)) js) (in_kinds k s f js h a)

-- ---- nodes

mutual
  stands : (p : Place) (t : Tree) (q : Place) (l : Label) → IsOneOf (q, l) (nodes p t) → IsIn l t
  stands p (tree m ts) q l (inl e) = inl (sym (ap (λ (s : Stand). s.1) e))
  stands p (tree m ts) q l (inr h) = by (is_group_kind m.kind) refl h (λ k. one_stands (below p (sort_of m.kind) (start_of m.ranges)) ts q l k)
    where
      by : (v : Bool) → is_group_kind m.kind ≡ v
          → IsOneOf (q, l) (if v then [] else nodes_in_all (below p (sort_of m.kind) (start_of m.ranges)) ts)
          → (IsOneOf (q, l) (nodes_in_all (below p (sort_of m.kind) (start_of m.ranges)) ts) → IsInOne l ts) → IsIn l (tree m ts)
      by true e k f = absurd k
      by false e k f = inr (e, f k)

  one_stands : (p : Place) (ts : Trees) (q : Place) (l : Label) → IsOneOf (q, l) (nodes_in_all p ts) → IsInOne l ts
  one_stands p none q l h = absurd h
  one_stands p (more t ts) q l h =
      elim (in_either (q, l) (nodes p t) (nodes_in_all p ts) h) [ inl a ↦ inl (stands p t q l a) | inr b ↦ inr (one_stands p ts q l b) ]

mutual
  found_there : (p : Place) (t : Tree) (l : Label) → IsIn l t → (q : Place) × IsOneOf (q, l) (nodes p t)
  found_there p (tree m ts) l (inl e) = (p, inl (ap (λ (n : Label). (p, n)) (sym e)))
  found_there p (tree m ts) l (inr h) =
      let r = one_there (below p (sort_of m.kind) (start_of m.ranges)) ts l h.1 in
      (r.0, inr (subst (λ (v : Bool). IsOneOf (r.0, l) (if v then [] else nodes_in_all (below p (sort_of m.kind) (start_of m.ranges)) ts)) (sym h.0) r.1))

  one_there : (p : Place) (ts : Trees) (l : Label) → IsInOne l ts → (q : Place) × IsOneOf (q, l) (nodes_in_all p ts)
  one_there p none l h = absurd h
  one_there p (more t ts) l (inl h) = let r = found_there p t l h in (r.0, in_front (r.0, l) (nodes p t) (nodes_in_all p ts) r.1)
  one_there p (more t ts) l (inr h) = let r = one_there p ts l h in (r.0, in_rest (r.0, l) (nodes p t) (nodes_in_all p ts) r.1)

-- ---- a kind that hangs on the node and its place

-- what is found of it at a node
pub record Says (page : List ℕ) (k : Doubt) (Is : Place → Label → Ranges → Span → Type 0) : Type 0 where
  pub each : (titles : List (List ℕ)) (p : Place) (l : Label) (r : Ranges) (s : Span) → Is p l r s → IsOneOf s (found page titles p (sort_of l.kind) l r k)
  pub only : (titles : List (List ℕ)) (p : Place) (l : Label) (r : Ranges) (s : Span) → IsOneOf s (found page titles p (sort_of l.kind) l r k) → Is p l r s
  pub known : IsOneOf k kinds

-- a node of these at which it is found
pub record Found (Is : Place → Label → Ranges → Span → Type 0) (ns : List Stand) (s : Span) : Type 0 where
  pub place : Place
  pub node : Label
  pub ranges : Ranges
  pub stands : IsOneOf (place, node) ns
  pub has : node.ranges ≡ Some ranges
  pub so : Is place node ranges s

found_at : (page : List ℕ) (k : Doubt) (Is : Place → Label → Ranges → Span → Type 0) → Says page k Is → (titles : List (List ℕ)) (p : Place) (l : Label)
    (o : Option Ranges) (s : Span) → l.ranges ≡ o → IsOneOf (k, s) (at_ranges page titles p l o) → (r : Ranges) × ((l.ranges ≡ Some r) × Is p l r s)
found_at page k Is says titles p l None s e h = absurd h
found_at page k Is says titles p l (Some r) s e h =
    (r, (e, says.only titles p l r s (of_kinds k s (λ j. found page titles p (sort_of l.kind) l r j) kinds h)))

pub found_among : (page : List ℕ) (k : Doubt) (Is : Place → Label → Ranges → Span → Type 0) → Says page k Is → (titles : List (List ℕ)) (ns : List Stand) (s : Span)
    → IsOneOf (k, s) (found_from page titles ns) → Found Is ns s
found_among page k Is says titles [] s h = absurd h
found_among page k Is says titles ((p, l) ∷ ns) s h =
    elim (in_either (k, s) (at_ranges page titles p l l.ranges) (found_from page (titles_after l titles) ns) h) [
      | inl a ↦
          let w = found_at page k Is says titles p l l.ranges s refl a in
          record { place = p; node = l; ranges = w.0; stands = inl refl; has = w.1.0; so = w.1.1 }
      | inr b ↦
          let f = found_among page k Is says (titles_after l titles) ns s b in
          record { place = f.place; node = f.node; ranges = f.ranges; stands = inr f.stands; has = f.has; so = f.so }
    ]

there_at : (page : List ℕ) (k : Doubt) (Is : Place → Label → Ranges → Span → Type 0) → Says page k Is → (titles : List (List ℕ)) (p : Place) (l : Label) (r : Ranges)
    (s : Span) → l.ranges ≡ Some r → Is p l r s → IsOneOf (k, s) (at_ranges page titles p l l.ranges)
there_at page k Is says titles p l r s e i =
    subst (λ (o : Option Ranges). IsOneOf (k, s) (at_ranges page titles p l o)) (sym e)
    (in_kinds k s (λ j. found page titles p (sort_of l.kind) l r j) kinds says.known (says.each titles p l r s i))

pub there_among : (page : List ℕ) (k : Doubt) (Is : Place → Label → Ranges → Span → Type 0) → Says page k Is → (titles : List (List ℕ)) (ns : List Stand) (s : Span)
    → Found Is ns s → IsOneOf (k, s) (found_from page titles ns)
there_among page k Is says titles [] s f = absurd f.stands
there_among page k Is says titles ((p, l) ∷ ns) s f =
    by f.stands (λ g. there_among page k Is says (titles_after l titles) ns s g)
  where
    by : IsOneOf (f.place, f.node) ((p, l) ∷ ns) → (Found Is ns s → IsOneOf (k, s) (found_from page (titles_after l titles) ns))
        → IsOneOf (k, s) (found_from page titles ((p, l) ∷ ns))
    by (inl e) next =
        let here : f.place ≡ p = ap (λ (x : Stand). x.0) e in
        let same : f.node ≡ l = ap (λ (x : Stand). x.1) e in
        in_front (k, s) (at_ranges page titles p l l.ranges) (found_from page (titles_after l titles) ns)
        (there_at page k Is says titles p l f.ranges s (subst (λ (n : Label). n.ranges ≡ Some f.ranges) same f.has)
        (subst (λ (n : Label). Is p n f.ranges s) same (subst (λ (q : Place). Is q f.node f.ranges s) here f.so)))
    by (inr h) next =
        in_rest (k, s) (at_ranges page titles p l l.ranges) (found_from page (titles_after l titles) ns)
        (next (record { place = f.place; node = f.node; ranges = f.ranges; stands = h; has = f.has; so = f.so }))

-- the whole range of a node that is so, wherever it is
abbrev Whole : (Label → Ranges → Type 0) → Place → Label → Ranges → Span → Type 0
Whole Is p l r s = Is l r × (s ≡ (r.start, r.end))

pub all_there : (k : Doubt) (page : List ℕ) (t : Tree) (Is : Label → Ranges → Type 0) → Says page k (Whole Is) → IsFoundAt k page t Is
all_there k page t Is says = record {
  each = λ s d.
      let q = found_there top t d.node d.stands in
      there_among page k (Whole Is) says [] (nodes top t) s
      (record { place = q.0; node = d.node; ranges = d.ranges; stands = q.1; has = d.has; so = (d.so, d.at) });
  only = λ s h.
      let f = found_among page k (Whole Is) says [] (nodes top t) s h in
      record { node = f.node; ranges = f.ranges; stands = stands top t f.place f.node f.stands; has = f.has; at = f.so.1; so = f.so.0 };
}

-- ---- tests

pub and_left : (a b : Bool) → (a && b) ≡ true → a ≡ true
and_left true b e = refl
and_left false b e = absurd (true≢false (sym e))

pub and_right : (a b : Bool) → (a && b) ≡ true → b ≡ true
and_right true b e = e
and_right false b e = absurd (true≢false (sym e))

pub and_both : (a b : Bool) → a ≡ true → b ≡ true → (a && b) ≡ true
and_both true b e f = f
and_both false b e f = absurd (true≢false (sym e))

or_both : (a b : Bool) → (a || b) ≡ true → (a ≡ true) ⊎ (b ≡ true)
or_both true b e = inl refl
or_both false b e = inr e

or_left : (a b : Bool) → a ≡ true → (a || b) ≡ true
or_left true b e = refl
or_left false b e = absurd (true≢false (sym e))

or_right : (a b : Bool) → b ≡ true → (a || b) ≡ true
or_right true b e = refl
or_right false b e = e

pub not_true : (a : Bool) → not a ≡ true → a ≡ false
not_true true e = absurd (true≢false (sym e))
not_true false e = refl

pub same_of : (a b : ℕ) → (a == b) ≡ true → a ≡ b
same_of a b e = grind (arith, nat_tests)

-- the whole range of a node that is so
pub whole_each : (b : Bool) (r : Ranges) → b ≡ true → IsOneOf (r.start, r.end) (whole b r)
whole_each true r e = inl refl
whole_each false r e = absurd (true≢false (sym e))

pub whole_only : (b : Bool) (r : Ranges) (s : Span) → IsOneOf s (whole b r) → (b ≡ true) × (s ≡ (r.start, r.end))
whole_only true r s (inl e) = (refl, e)
whole_only true r s (inr h) = absurd h
whole_only false r s h = absurd h

-- ---- kinds of nodes

style_kind : (k : Kind) → is_style (sort_of k) ≡ true → IsStyle k
style_kind kind.Bold e = inl refl
style_kind kind.Italic e = inr refl
style_kind k e = absurd (cc)

kind_style : (k : Kind) → IsStyle k → is_style (sort_of k) ≡ true
kind_style k (inl e) = ap (λ j. is_style (sort_of j)) e
kind_style k (inr e) = ap (λ j. is_style (sort_of j)) e

group_kind : (k : Kind) → is_group (sort_of k) ≡ true → k ≡ kind.Group
group_kind kind.Group e = refl
group_kind k e = absurd (cc)

pub table_kind : (k : Kind) → is_table (sort_of k) ≡ true → k ≡ kind.Table
table_kind kind.Table e = refl
table_kind k e = absurd (cc)

island_kind : (k : Kind) → is_island (sort_of k) ≡ true → k ≡ kind.Island
island_kind kind.Island e = refl
island_kind k e = absurd (cc)

heading_kind : (k : Kind) → is_heading (sort_of k) ≡ true → (n : ℕ) × (k ≡ kind.Heading n)
heading_kind (kind.Heading n) e = (n, refl)
heading_kind k e = absurd (cc)

-- ---- styles

quote_there : (page : List ℕ) (n : ℕ) → (slice_index page n == byte.apostrophe) ≡ true → slice_get page n ≡ Some byte.apostrophe
quote_there [] n e = absurd (true≢false (sym e))
quote_there (b ∷ page) zero e = ap Some (same_of b byte.apostrophe e)
quote_there (b ∷ page) (suc n) e = quote_there page n e

there_quote : (page : List ℕ) (n : ℕ) → slice_get page n ≡ Some byte.apostrophe → (slice_index page n == byte.apostrophe) ≡ true
there_quote [] n e = absurd (cc)
there_quote (b ∷ page) zero e = let same : b ≡ byte.apostrophe = cc in eq-eqb b byte.apostrophe same
there_quote (b ∷ page) (suc n) e = there_quote page n e

no_quote : (page : List ℕ) (n : ℕ) → slice_get page n ≢ Some byte.apostrophe → not (slice_index page n == byte.apostrophe) ≡ true
no_quote page n z = by (slice_index page n == byte.apostrophe) refl
  where
    by : (b : Bool) → (slice_index page n == byte.apostrophe) ≡ b → not b ≡ true
    by true e = absurd (z (quote_there page n e))
    by false e = refl

style_open : (page : List ℕ) (l : Label) (r : Ranges) → IsOpenStyle page l r
    → ((is_style (sort_of l.kind) && is_open_style page r) || (is_group (sort_of l.kind) && is_empty r)) ≡ true
style_open page l r (inl h) =
    or_left (is_style (sort_of l.kind) && is_open_style page r) (is_group (sort_of l.kind) && is_empty r)
    (and_both (is_style (sort_of l.kind)) (is_open_style page r) (kind_style l.kind h.0)
    (and_both (is_unclosed r) (not (slice_index page r.end == byte.apostrophe)) (eq-eqb r.close_w 0 h.1.0) (no_quote page r.end h.1.1)))
style_open page l r (inr h) =
    or_right (is_style (sort_of l.kind) && is_open_style page r) (is_group (sort_of l.kind) && is_empty r)
    (and_both (is_group (sort_of l.kind)) (is_empty r) (ap (λ k. is_group (sort_of k)) h.0) (eq-eqb r.start r.end h.1))

open_style : (page : List ℕ) (l : Label) (r : Ranges)
    → ((is_style (sort_of l.kind) && is_open_style page r) || (is_group (sort_of l.kind) && is_empty r)) ≡ true → IsOpenStyle page l r
open_style page l r e =
    elim (or_both (is_style (sort_of l.kind) && is_open_style page r) (is_group (sort_of l.kind) && is_empty r) e) [
      | inl a ↦
          let o = and_right (is_style (sort_of l.kind)) (is_open_style page r) a in
          let q = not_true (slice_index page r.end == byte.apostrophe) (and_right (is_unclosed r) (not (slice_index page r.end == byte.apostrophe)) o) in
          inl (
            style_kind l.kind (and_left (is_style (sort_of l.kind)) (is_open_style page r) a),
            (
              same_of r.close_w 0 (and_left (is_unclosed r) (not (slice_index page r.end == byte.apostrophe)) o),
              λ x. true≢false (sym (there_quote page r.end x) ∙ q),
            ),
          )
      | inr b ↦
          inr (
            group_kind l.kind (and_left (is_group (sort_of l.kind)) (is_empty r) b),
            same_of r.start r.end (and_right (is_group (sort_of l.kind)) (is_empty r) b),
          )
    ]

-- ---- each kind

-- a kind that is found by a test of the node
by_test : (page : List ℕ) (k : Doubt) (Is : Label → Ranges → Type 0) (test : Label → Ranges → Bool)
    → ((titles : List (List ℕ)) (p : Place) (l : Label) (r : Ranges) → found page titles p (sort_of l.kind) l r k ≡ whole (test l r) r)
    → ((l : Label) (r : Ranges) → Is l r → test l r ≡ true) → ((l : Label) (r : Ranges) → test l r ≡ true → Is l r) → IsOneOf k kinds → Says page k (Whole Is)
by_test page k Is test same there only known = record {
  each = λ titles p l r s i.
      subst (λ (x : Span). IsOneOf x (found page titles p (sort_of l.kind) l r k)) (sym i.1)
      (subst (IsOneOf (r.start, r.end)) (sym (same titles p l r)) (whole_each (test l r) r (there l r i.0)));
  only = λ titles p l r s h. let w = whole_only (test l r) r s (subst (IsOneOf s) (same titles p l r) h) in (only l r w.0, w.1);
  known = known;
}

pub open_styles : (page : List ℕ) (t : Tree) → IsFoundAt doubt.OpenStyle page t (IsOpenStyle page)
open_styles page t =
    all_there doubt.OpenStyle page t (IsOpenStyle page)
    (by_test page doubt.OpenStyle (IsOpenStyle page)
    (λ l r. (is_style (sort_of l.kind) && is_open_style page r) || (is_group (sort_of l.kind) && is_empty r))
    (λ titles p l r. refl) (style_open page) (open_style page) (inl refl))

pub open_tables : (page : List ℕ) (t : Tree) → IsFoundAt doubt.OpenTable page t (IsOpenTable page)
open_tables page t =
    all_there doubt.OpenTable page t (IsOpenTable page)
    (by_test page doubt.OpenTable (IsOpenTable page) (λ l r. is_table (sort_of l.kind) && is_unclosed r) (λ titles p l r. refl)
    (λ l r h. and_both (is_table (sort_of l.kind)) (is_unclosed r) (ap (λ k. is_table (sort_of k)) h.0) (eq-eqb r.close_w 0 h.1))
    (λ l r e. (table_kind l.kind (and_left (is_table (sort_of l.kind)) (is_unclosed r) e), same_of r.close_w 0 (and_right (is_table (sort_of l.kind)) (is_unclosed r) e)))
    (inr (inl refl)))

pub open_tags : (page : List ℕ) (t : Tree) → IsFoundAt doubt.OpenTag page t (IsOpenTag page)
open_tags page t =
    all_there doubt.OpenTag page t (IsOpenTag page)
    (by_test page doubt.OpenTag (IsOpenTag page) (λ l r. is_island (sort_of l.kind) && is_open_tag (slice page r.start r.end)) (λ titles p l r. refl)
    (λ l r h. and_both (is_island (sort_of l.kind)) (is_open_tag (slice page r.start r.end)) (ap (λ k. is_island (sort_of k)) h.0) h.1)
    (λ l r e. (island_kind l.kind (and_left (is_island (sort_of l.kind)) (is_open_tag (slice page r.start r.end)) e), and_right (is_island (sort_of l.kind)) (is_open_tag (slice page r.start r.end)) e))
    (inr (inr (inr (inl refl)))))

pub stray_tags : (page : List ℕ) (t : Tree) → IsFoundAt doubt.StrayTag page t (IsStrayTag page)
stray_tags page t =
    all_there doubt.StrayTag page t (IsStrayTag page)
    (by_test page doubt.StrayTag (IsStrayTag page) (λ l r. is_island (sort_of l.kind) && is_closing_tag (slice page r.start r.end)) (λ titles p l r. refl)
    (λ l r h. and_both (is_island (sort_of l.kind)) (is_closing_tag (slice page r.start r.end)) (ap (λ k. is_island (sort_of k)) h.0) h.1)
    (λ l r e. (island_kind l.kind (and_left (is_island (sort_of l.kind)) (is_closing_tag (slice page r.start r.end)) e), and_right (is_island (sort_of l.kind)) (is_closing_tag (slice page r.start r.end)) e))
    (inr (inr (inr (inr (inl refl))))))

pub unequal_headings : (page : List ℕ) (t : Tree) → IsFoundAt doubt.UnequalHeading page t (IsUnequalHeading page)
unequal_headings page t =
    all_there doubt.UnequalHeading page t (IsUnequalHeading page)
    (by_test page doubt.UnequalHeading (IsUnequalHeading page) (λ l r. is_heading (sort_of l.kind) && is_unequal page r) (λ titles p l r. refl)
    (λ l r h. and_both (is_heading (sort_of l.kind)) (is_unequal page r) (ap (λ k. is_heading (sort_of k)) h.0.1) h.1)
    (λ l r e. (heading_kind l.kind (and_left (is_heading (sort_of l.kind)) (is_unequal page r) e), and_right (is_heading (sort_of l.kind)) (is_unequal page r) e))
    (inr (inr (inr (inr (inr (inr (inr (inr (inr (inl refl)))))))))))
