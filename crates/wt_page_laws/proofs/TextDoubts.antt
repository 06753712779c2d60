-- What is found in texts that are in no group and no nowiki, and which categories are repeated.
use Rattle.std.proofs.Common.{◌≡◌, ◌≢◌, ℕ, Bool, true, false, List, [], refl, sym, ap, ◌∙◌, subst, inl, inr, true≢false}
use Rattle.std.specs.Prelude.{◌&&◌, ◌||◌, not, if◌then◌else◌}
use Rattle.wt_tree.specs.declared.kind.Kind.{Kind}
use Rattle.wt_tree.specs.declared.kind.Kind.TheVariants as kind
use Rattle.wt_tree.specs.declared.kind.Ranges.{Ranges}
use Rattle.wt_tree.specs.Tiling.{is_group as is_group_kind}
use Rattle.wt_tree.specs.Tree.{Label, Tree, tree, Trees, none, more}
use Rattle.wt_annotated.specs.Slices.{slice}
use Rattle.wt_lint.specs.declared.finding.Kind.{Kind as Doubt}
use Rattle.wt_lint.specs.declared.finding.Kind.TheVariants as doubt
use Rattle.wt_lint.specs.declared.place.Place.{Place}
use Rattle.wt_lint.specs.Findings.{found}
use Rattle.wt_lint.specs.Found.{Span}
use Rattle.wt_lint.specs.Kinds.{kinds}
use Rattle.wt_lint.specs.Nodes.{Stand, below, is_nowiki, is_text, nodes, nodes_in_all, sort_of, start_of, top}
use Rattle.wt_lint.specs.Texts.{pairs, runs, when}
use Rattle.wt_page_laws.specs.Doubtful.{AreFoundInTexts, IsOneOf, IsReadIn, IsReadInOne}
use Rattle.wt_page_laws.proofs.Doubts.{Says, and_both, and_left, and_right, found_among, in_either, in_front, in_rest, not_true, there_among}

-- ---- places in no nowiki

nowiki_kind : (k : Kind) → is_nowiki (sort_of k) ≡ true → k ≡ kind.Nowiki
nowiki_kind kind.Nowiki e = refl
nowiki_kind k e = absurd (cc)

pub text_kind : (k : Kind) → is_text (sort_of k) ≡ true → k ≡ kind.Text
text_kind kind.Text e = refl
text_kind k e = absurd (cc)

-- below a nowiki all is in it
mutual
  stays_in : (p : Place) (t : Tree) (q : Place) (l : Label) → p.in_nowiki ≡ true → IsOneOf (q, l) (nodes p t) → q.in_nowiki ≡ true
  stays_in p (tree m ts) q l i (inl e) = ap (λ (s : Stand). s.0.in_nowiki) e ∙ i
  stays_in p (tree m ts) q l i (inr h) =
      by (is_group_kind m.kind) h
      (λ k. all_stay_in (below p (sort_of m.kind) (start_of m.ranges)) ts q l (ap (λ b. b || is_nowiki (sort_of m.kind)) i) k)
    where
      by : (v : Bool) → IsOneOf (q, l) (if v then [] else nodes_in_all (below p (sort_of m.kind) (start_of m.ranges)) ts)
          → (IsOneOf (q, l) (nodes_in_all (below p (sort_of m.kind) (start_of m.ranges)) ts) → q.in_nowiki ≡ true) → q.in_nowiki ≡ true
      by true k f = absurd k
      by false k f = f k

  all_stay_in : (p : Place) (ts : Trees) (q : Place) (l : Label) → p.in_nowiki ≡ true → IsOneOf (q, l) (nodes_in_all p ts) → q.in_nowiki ≡ true
  all_stay_in p none q l i h = absurd h
  all_stay_in p (more t ts) q l i h =
      elim (in_either (q, l) (nodes p t) (nodes_in_all p ts) h) [ inl a ↦ stays_in p t q l i a | inr b ↦ all_stay_in p ts q l i b ]

below_free : (p : Place) (k : Kind) (start : ℕ) → p.in_nowiki ≡ false → is_nowiki (sort_of k) ≡ false → (below p (sort_of k) start).in_nowiki ≡ false
below_free p k start e f = ap (λ b. b || is_nowiki (sort_of k)) e ∙ f

mutual
  read_there : (p : Place) (t : Tree) (q : Place) (l : Label) → p.in_nowiki ≡ false → q.in_nowiki ≡ false → IsOneOf (q, l) (nodes p t) → IsReadIn l t
  read_there p (tree m ts) q l e f (inl s) = inl (sym (ap (λ (x : Stand). x.1) s))
  read_there p (tree m ts) q l e f (inr h) =
      by (is_group_kind m.kind) (is_nowiki (sort_of m.kind)) refl refl h
      (λ z k. one_read_there (below p (sort_of m.kind) (start_of m.ranges)) ts q l (below_free p m.kind (start_of m.ranges) e z) f k)
    where
      by : (v w : Bool) → is_group_kind m.kind ≡ v → is_nowiki (sort_of m.kind) ≡ w
          → IsOneOf (q, l) (if v then [] else nodes_in_all (below p (sort_of m.kind) (start_of m.ranges)) ts)
          → (is_nowiki (sort_of m.kind) ≡ false → IsOneOf (q, l) (nodes_in_all (below p (sort_of m.kind) (start_of m.ranges)) ts) → IsReadInOne l ts)
          → IsReadIn l (tree m ts)
      by true w a b k g = absurd k
      by false true a b k g =
          let inside : q.in_nowiki ≡ true =
          all_stay_in (below p (sort_of m.kind) (start_of m.ranges)) ts q l (ap (λ c. c || is_nowiki (sort_of m.kind)) e ∙ b) k in
          absurd (true≢false (sym inside ∙ f))
      by false false a b k g = inr (a, (λ x. true≢false (sym (ap (λ j. is_nowiki (sort_of j)) x) ∙ b), g b k))

  one_read_there : (p : Place) (ts : Trees) (q : Place) (l : Label) → p.in_nowiki ≡ false → q.in_nowiki ≡ false → IsOneOf (q, l) (nodes_in_all p ts) → IsReadInOne l ts
  one_read_there p none q l e f h = absurd h
  one_read_there p (more t ts) q l e f h =
      elim (in_either (q, l) (nodes p t) (nodes_in_all p ts) h) [
        | inl a ↦ inl (read_there p t q l e f a)
        | inr b ↦ inr (one_read_there p ts q l e f b)
      ]

-- a node that is read stands in no nowiki
record Free (l : Label) (ns : List Stand) : Type 0 where
  place : Place
  stands : IsOneOf (place, l) ns
  free : place.in_nowiki ≡ false

no_nowiki : (k : Kind) → k ≢ kind.Nowiki → is_nowiki (sort_of k) ≡ false
no_nowiki k z = by (is_nowiki (sort_of k)) refl
  where
    by : (v : Bool) → is_nowiki (sort_of k) ≡ v → v ≡ false
    by true e = absurd (z (nowiki_kind k e))
    by false e = refl

mutual
  there_read : (p : Place) (t : Tree) (l : Label) → p.in_nowiki ≡ false → IsReadIn l t → Free l (nodes p t)
  there_read p (tree m ts) l e (inl s) = record { place = p; stands = inl (ap (λ (n : Label). (p, n)) (sym s)); free = e }
  there_read p (tree m ts) l e (inr h) =
      let r = one_there_read (below p (sort_of m.kind) (start_of m.ranges)) ts l (below_free p m.kind (start_of m.ranges) e (no_nowiki m.kind h.1.0)) h.1.1 in
      record {
        place = r.place;
        stands = inr (subst (λ (v : Bool). IsOneOf (r.place, l) (if v then [] else nodes_in_all (below p (sort_of m.kind) (start_of m.ranges)) ts)) (sym h.0) r.stands);
        free = r.free;
      }

  one_there_read : (p : Place) (ts : Trees) (l : Label) → p.in_nowiki ≡ false → IsReadInOne l ts → Free l (nodes_in_all p ts)
  one_there_read p none l e h = absurd h
  one_there_read p (more t ts) l e (inl h) =
      let r = there_read p t l e h in record { place = r.place; stands = in_front (r.place, l) (nodes p t) (nodes_in_all p ts) r.stands; free = r.free }
  one_there_read p (more t ts) l e (inr h) =
      let r = one_there_read p ts l e h in record { place = r.place; stands = in_rest (r.place, l) (nodes p t) (nodes_in_all p ts) r.stands; free = r.free }

-- ---- kinds that are found in texts

abbrev InText : (ℕ → List ℕ → List Span) → List ℕ → Place → Label → Ranges → Span → Type 0
InText spans page p l r s = (l.kind ≡ kind.Text) × ((p.in_nowiki ≡ false) × IsOneOf s (spans r.start (slice page r.start r.end)))

pub when_each : (b : Bool) (ss : List Span) (s : Span) → b ≡ true → IsOneOf s ss → IsOneOf s (when b ss)
when_each true ss s e h = h
when_each false ss s e h = absurd (true≢false (sym e))

pub when_only : (b : Bool) (ss : List Span) (s : Span) → IsOneOf s (when b ss) → (b ≡ true) × IsOneOf s ss
when_only true ss s h = (refl, h)
when_only false ss s h = absurd h

text_says : (page : List ℕ) (k : Doubt) (spans : ℕ → List ℕ → List Span)
    → ((titles : List (List ℕ)) (p : Place) (l : Label) (r : Ranges)
    → found page titles p (sort_of l.kind) l r k ≡ when (is_text (sort_of l.kind) && not p.in_nowiki) (spans r.start (slice page r.start r.end)))
    → IsOneOf k kinds → Says page k (InText spans page)
text_says page k spans same known = record {
  each = λ titles p l r s i.
      subst (IsOneOf s) (sym (same titles p l r))
      (when_each (is_text (sort_of l.kind) && not p.in_nowiki) (spans r.start (slice page r.start r.end)) s
      (and_both (is_text (sort_of l.kind)) (not p.in_nowiki) (ap (λ j. is_text (sort_of j)) i.0) (ap not i.1.0)) i.1.1);
  only = λ titles p l r s h.
      let w = when_only (is_text (sort_of l.kind) && not p.in_nowiki) (spans r.start (slice page r.start r.end)) s (subst (IsOneOf s) (same titles p l r) h) in
      (text_kind l.kind (and_left (is_text (sort_of l.kind)) (not p.in_nowiki) w.0), (not_true p.in_nowiki (and_right (is_text (sort_of l.kind)) (not p.in_nowiki) w.0), w.1));
  known = known;
}

in_texts : (k : Doubt) (page : List ℕ) (t : Tree) (spans : ℕ → List ℕ → List Span) → Says page k (InText spans page) → AreFoundInTexts k page t spans
in_texts k page t spans says = record {
  each = λ s d.
      let q = there_read top t d.node refl d.stands in
      there_among page k (InText spans page) says [] (nodes top t) s
      (record { place = q.place; node = d.node; ranges = d.ranges; stands = q.stands; has = d.has; so = (d.text, (q.free, d.so)) });
  only = λ s h.
      let f = found_among page k (InText spans page) says [] (nodes top t) s h in
      record {
        node = f.node;
        ranges = f.ranges;
        stands = read_there top t f.place f.node refl f.so.1.0 f.stands;
        text = f.so.0;
        has = f.has;
        so = f.so.1.1;
      };
}

pub open_braces : (page : List ℕ) (t : Tree) → AreFoundInTexts doubt.OpenBraces page t (λ at bs. runs 123 at false bs)
open_braces page t =
    in_texts doubt.OpenBraces page t (λ at bs. runs 123 at false bs)
    (text_says page doubt.OpenBraces (λ at bs. runs 123 at false bs) (λ titles p l r. refl) (inr (inr (inr (inr (inr (inl refl)))))))

pub stray_braces : (page : List ℕ) (t : Tree) → AreFoundInTexts doubt.StrayBraces page t (λ at bs. runs 125 at false bs)
stray_braces page t =
    in_texts doubt.StrayBraces page t (λ at bs. runs 125 at false bs)
    (text_says page doubt.StrayBraces (λ at bs. runs 125 at false bs) (λ titles p l r. refl) (inr (inr (inr (inr (inr (inr (inl refl))))))))

pub open_links : (page : List ℕ) (t : Tree) → AreFoundInTexts doubt.OpenLink page t (λ at bs. pairs 91 at bs)
open_links page t =
    in_texts doubt.OpenLink page t (λ at bs. pairs 91 at bs)
    (text_says page doubt.OpenLink (λ at bs. pairs 91 at bs) (λ titles p l r. refl) (inr (inr (inr (inr (inr (inr (inr (inl refl)))))))))

pub stray_links : (page : List ℕ) (t : Tree) → AreFoundInTexts doubt.StrayLinkEnd page t (λ at bs. pairs 93 at bs)
stray_links page t =
    in_texts doubt.StrayLinkEnd page t (λ at bs. pairs 93 at bs)
    (text_says page doubt.StrayLinkEnd (λ at bs. pairs 93 at bs) (λ titles p l r. refl) (inr (inr (inr (inr (inr (inr (inr (inr (inl refl))))))))))
