-- Which ends of tables are found: in texts directly in paragraphs that are in no table.
use Rattle.std.proofs.Common.{◌≡◌, ◌≢◌, ◌⊎◌, ℕ, Bool, true, false, Some, None, List, [], refl, sym, ap, ◌∙◌, subst, inl, inr, true≢false}
use Rattle.std.specs.Prelude.{◌||◌, if◌then◌else◌, Option}
use Rattle.wt_tree.specs.declared.kind.Kind.{Kind}
use Rattle.wt_tree.specs.declared.kind.Kind.TheVariants as kind
use Rattle.wt_tree.specs.declared.kind.Ranges.{Ranges}
use Rattle.wt_tree.specs.Tiling.{is_group as is_group_kind}
use Rattle.wt_tree.specs.Tree.{Label, Tree, tree, Trees, none, more}
use Rattle.wt_annotated.specs.Slices.{slice}
use Rattle.wt_lint.specs.declared.finding.Kind.TheVariants.{StrayTableEnd}
use Rattle.wt_lint.specs.declared.place.Place.{Place}
use Rattle.wt_lint.specs.declared.place.Sort.{Sort}
use Rattle.wt_lint.specs.declared.place.Sort.TheVariants as sort
use Rattle.wt_lint.specs.Findings.{stray_ends}
use Rattle.wt_lint.specs.Found.{Span}
use Rattle.wt_lint.specs.Nodes.{Stand, below, is_table, is_text, nodes, nodes_in_all, paragraph_below, sort_of, start_of, top}
use Rattle.wt_lint.specs.Texts.{table_ends}
use Rattle.wt_page_laws.specs.Doubtful.{HasLabel, IsDirect, IsDirectOne, IsOneOf, StrayEndsAreFound}
use Rattle.wt_page_laws.proofs.Doubts.{Says, found_among, in_either, in_front, in_rest, table_kind, there_among}
use Rattle.wt_page_laws.proofs.TextDoubts.{text_kind, when_each, when_only}

-- ---- in tables

none_below : (s : Sort) (start : ℕ) → paragraph_below true s start ≡ None
none_below sort.Paragraph start = refl
none_below s start = refl

mutual
  in_table : (p : Place) (t : Tree) (q : Place) (l : Label) → p.in_table ≡ true → p.paragraph ≡ None → IsOneOf (q, l) (nodes p t) → q.paragraph ≡ None
  in_table p (tree m ts) q l i n (inl e) = ap (λ (s : Stand). s.0.paragraph) e ∙ n
  in_table p (tree m ts) q l i n (inr h) =
      by (is_group_kind m.kind) h
      (λ k. all_in_table (below p (sort_of m.kind) (start_of m.ranges)) ts q l (ap (λ b. b || is_table (sort_of m.kind)) i)
      (ap (λ b. paragraph_below b (sort_of m.kind) (start_of m.ranges)) i ∙ none_below (sort_of m.kind) (start_of m.ranges)) k)
    where
      by : (v : Bool) → IsOneOf (q, l) (if v then [] else nodes_in_all (below p (sort_of m.kind) (start_of m.ranges)) ts)
          → (IsOneOf (q, l) (nodes_in_all (below p (sort_of m.kind) (start_of m.ranges)) ts) → q.paragraph ≡ None) → q.paragraph ≡ None
      by true k f = absurd k
      by false k f = f k

  all_in_table : (p : Place) (ts : Trees) (q : Place) (l : Label) → p.in_table ≡ true → p.paragraph ≡ None → IsOneOf (q, l) (nodes_in_all p ts) → q.paragraph ≡ None
  all_in_table p none q l i n h = absurd h
  all_in_table p (more t ts) q l i n h =
      elim (in_either (q, l) (nodes p t) (nodes_in_all p ts) h) [ inl a ↦ in_table p t q l i n a | inr b ↦ all_in_table p ts q l i n b ]

-- ---- directly in paragraphs

-- of what is below a node that is in no table
para_below : (k : Kind) (start from : ℕ) → paragraph_below false (sort_of k) start ≡ Some from → (k ≡ kind.Para) × (start ≡ from)
para_below kind.Para start from e = (refl, cc)
para_below k start from e = absurd (cc)

table_below : (k : Kind) (b : Bool) (start : ℕ) → is_table (sort_of k) ≡ true → paragraph_below b (sort_of k) start ≡ None
table_below kind.Table b start e = refl
table_below k b start e = absurd (cc)

either_true : (a b : Bool) → b ≡ true → (a || b) ≡ true
either_true true b g = refl
either_true false b g = g

some_none : (n : ℕ) → Some n ≡ None → ⊥
some_none n g = cc

abbrev IsRoot : Label → Tree → Type 0
IsRoot l (tree m ts) = m ≡ l

either_label : (l : Label) (t : Tree) (ts : Trees) → IsRoot l t ⊎ HasLabel l ts → HasLabel l (more t ts)
either_label l (tree m us) ts h = h

mutual
  direct : (p : Place) (t : Tree) (q : Place) (l : Label) (from : ℕ) → p.in_table ≡ false → q.paragraph ≡ Some from → IsOneOf (q, l) (nodes p t)
      → ((p.paragraph ≡ Some from) × IsRoot l t) ⊎ IsDirect l from t
  direct p (tree m ts) q l from i e (inl s) = inl (sym (ap (λ (x : Stand). x.0.paragraph) s) ∙ e, sym (ap (λ (x : Stand). x.1) s))
  direct p (tree m ts) q l from i e (inr h) =
      by (is_group_kind m.kind) (is_table (sort_of m.kind)) refl refl h
      (λ z k. all_direct (below p (sort_of m.kind) (start_of m.ranges)) ts q l from (ap (λ b. b || is_table (sort_of m.kind)) i ∙ z) e k)
    where
      below_place : Place
      below_place = below p (sort_of m.kind) (start_of m.ranges)

      held : is_group_kind m.kind ≡ false → is_table (sort_of m.kind) ≡ false
          → ((below_place.paragraph ≡ Some from) × HasLabel l ts) ⊎ IsDirectOne l from ts → IsDirect l from (tree m ts)
      held a b (inl k) =
          let w = para_below m.kind (start_of m.ranges) from (sym (ap (λ c. paragraph_below c (sort_of m.kind) (start_of m.ranges)) i) ∙ k.0) in
          inl (w.0, (w.1, k.1))
      held a b (inr k) = inr (a, (λ x. true≢false (sym (ap (λ j. is_table (sort_of j)) x) ∙ b), k))

      by : (v w : Bool) → is_group_kind m.kind ≡ v → is_table (sort_of m.kind) ≡ w → IsOneOf (q, l) (if v then [] else nodes_in_all below_place ts)
          → (is_table (sort_of m.kind) ≡ false → IsOneOf (q, l) (nodes_in_all below_place ts)
          → ((below_place.paragraph ≡ Some from) × HasLabel l ts) ⊎ IsDirectOne l from ts)
          → ((p.paragraph ≡ Some from) × IsRoot l (tree m ts)) ⊎ IsDirect l from (tree m ts)
      by true w a b k f = absurd k
      by false true a b k f =
          let lost : q.paragraph ≡ None =
          all_in_table below_place ts q l (either_true p.in_table (is_table (sort_of m.kind)) b) (table_below m.kind p.in_table (start_of m.ranges) b) k in
          absurd (some_none from (sym e ∙ lost))
      by false false a b k f = inr (held a b (f b k))

  all_direct : (p : Place) (ts : Trees) (q : Place) (l : Label) (from : ℕ) → p.in_table ≡ false → q.paragraph ≡ Some from → IsOneOf (q, l) (nodes_in_all p ts)
      → ((p.paragraph ≡ Some from) × HasLabel l ts) ⊎ IsDirectOne l from ts
  all_direct p none q l from i e h = absurd h
  all_direct p (more t ts) q l from i e h =
      elim (in_either (q, l) (nodes p t) (nodes_in_all p ts) h) [
        | inl a ↦
            elim (direct p t q l from i e a) [
              | inl k ↦ inl (k.0, either_label l t ts (inl k.1))
              | inr k ↦ inr (inl k)
            ]
        | inr b ↦
            elim (all_direct p ts q l from i e b) [
              | inl k ↦ inl (k.0, either_label l t ts (inr k.1))
              | inr k ↦ inr (inr k)
            ]
      ]

-- ---- the other way round

record Directly (l : Label) (from : ℕ) (ns : List Stand) : Type 0 where
  place : Place
  stands : IsOneOf (place, l) ns
  paragraph : place.paragraph ≡ Some from

label_there : (p : Place) (ts : Trees) (l : Label) → HasLabel l ts → IsOneOf (p, l) (nodes_in_all p ts)
label_there p none l h = absurd h
label_there p (more (tree m us) ts) l (inl e) = inl (ap (λ (n : Label). (p, n)) (sym e))
label_there p (more (tree m us) ts) l (inr h) = in_rest (p, l) (nodes p (tree m us)) (nodes_in_all p ts) (label_there p ts l h)

no_table : (k : Kind) → k ≢ kind.Table → is_table (sort_of k) ≡ false
no_table k z = by (is_table (sort_of k)) refl
  where
    by : (v : Bool) → is_table (sort_of k) ≡ v → v ≡ false
    by true e = absurd (z (table_kind k e))
    by false e = refl

mutual
  there_direct : (p : Place) (t : Tree) (l : Label) (from : ℕ) → p.in_table ≡ false → IsDirect l from t → Directly l from (nodes p t)
  there_direct p (tree m ts) l from i (inl h) =
      let q : Place = below p (sort_of m.kind) (start_of m.ranges) in
      let here : IsOneOf (q, l) (nodes_in_all q ts) = label_there q ts l h.1.1 in
      record {
        place = q;
        stands = inr (subst (λ (v : Bool). IsOneOf (q, l) (if v then [] else nodes_in_all q ts)) (sym (ap is_group_kind h.0)) here);
        paragraph =
            ap (λ b. paragraph_below b (sort_of m.kind) (start_of m.ranges)) i ∙ ap (λ k. paragraph_below false (sort_of k) (start_of m.ranges)) h.0
            ∙ ap Some h.1.0;
      }
  there_direct p (tree m ts) l from i (inr h) =
      let q : Place = below p (sort_of m.kind) (start_of m.ranges) in
      let r : Directly l from (nodes_in_all q ts) =
      one_there_direct q ts l from (ap (λ b. b || is_table (sort_of m.kind)) i ∙ no_table m.kind h.1.0) h.1.1 in
      record {
        place = r.place;
        stands = inr (subst (λ (v : Bool). IsOneOf (r.place, l) (if v then [] else nodes_in_all q ts)) (sym h.0) r.stands);
        paragraph = r.paragraph;
      }

  one_there_direct : (p : Place) (ts : Trees) (l : Label) (from : ℕ) → p.in_table ≡ false → IsDirectOne l from ts → Directly l from (nodes_in_all p ts)
  one_there_direct p none l from i h = absurd h
  one_there_direct p (more t ts) l from i (inl h) =
      let r = there_direct p t l from i h in
      record { place = r.place; stands = in_front (r.place, l) (nodes p t) (nodes_in_all p ts) r.stands; paragraph = r.paragraph }
  one_there_direct p (more t ts) l from i (inr h) =
      let r = one_there_direct p ts l from i h in
      record { place = r.place; stands = in_rest (r.place, l) (nodes p t) (nodes_in_all p ts) r.stands; paragraph = r.paragraph }

-- ---- what is found

record IsEnd (page : List ℕ) (p : Place) (l : Label) (r : Ranges) (s : Span) : Type 0 where
  text : l.kind ≡ kind.Text
  start : ℕ
  paragraph : p.paragraph ≡ Some start
  among : IsOneOf s (table_ends page start r.start (slice page r.start r.end))

ends_by : (page : List ℕ) (p : Place) (o : Option ℕ) (l : Label) (r : Ranges) (s : Span) → p.paragraph ≡ o → l.kind ≡ kind.Text → IsOneOf s (stray_ends page o r)
    → IsEnd page p l r s
ends_by page p None l r s e k h = absurd h
ends_by page p (Some from) l r s e k h = record { text = k; start = from; paragraph = e; among = h }

end_says : (page : List ℕ) → Says page StrayTableEnd (IsEnd page)
end_says page = record {
  each = λ titles p l r s i.
      when_each (is_text (sort_of l.kind)) (stray_ends page p.paragraph r) s (ap (λ j. is_text (sort_of j)) i.text)
      (subst (λ (o : Option ℕ). IsOneOf s (stray_ends page o r)) (sym i.paragraph) i.among);
  only = λ titles p l r s h.
      let w = when_only (is_text (sort_of l.kind)) (stray_ends page p.paragraph r) s h in
      ends_by page p p.paragraph l r s refl (text_kind l.kind w.0) w.1;
  known = inr (inr (inl refl));
}

no_root : (l : Label) (from : ℕ) (t : Tree) → ((top.paragraph ≡ Some from) × IsRoot l t) ⊎ IsDirect l from t → IsDirect l from t
no_root l from t (inl h) = absurd (lost h.0)
  where
    lost : None ≡ Some from → ⊥
    lost e = cc
no_root l from t (inr h) = h

pub stray_ends_found : (page : List ℕ) (t : Tree) → StrayEndsAreFound page t
stray_ends_found page t = record {
  each = λ s d.
      let q = there_direct top t d.node d.start refl d.stands in
      there_among page StrayTableEnd (IsEnd page) (end_says page) [] (nodes top t) s
      (record {
        place = q.place;
        node = d.node;
        ranges = d.ranges;
        stands = q.stands;
        has = d.has;
        so = record { text = d.text; start = d.start; paragraph = q.paragraph; among = d.so };
      });
  only = λ s h.
      let f = found_among page StrayTableEnd (IsEnd page) (end_says page) [] (nodes top t) s h in
      record {
        node = f.node;
        start = f.so.start;
        ranges = f.ranges;
        stands = no_root f.node f.so.start t (direct top t f.place f.node f.so.start refl f.so.paragraph f.stands);
        text = f.so.text;
        has = f.has;
        so = f.so.among;
      };
}
