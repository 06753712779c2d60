-- Which categories are found as repeated.
use Rattle.std.proofs.Common.{◌≡◌, ◌⊎◌, ℕ, Bool, true, false, Some, None, List, [], ◌∷◌, ◌++◌, map, refl, sym, ap, ◌∙◌, subst, inl, inr, true≢false}
use Rattle.std.specs.Prelude.{◌&&◌, ◌||◌, if◌then◌else◌, Option}
use Rattle.std.specs.Cmp.Lexicographic.{slice_cmp}
use Rattle.std.specs.Ordering.{is_eq, match_ordering, nat_cmp}
use Rattle.std.specs.declared.cmp.Ordering.{Ordering}
use Rattle.std.specs.declared.cmp.Ordering.TheVariants.{Less, Equal, Greater}
use Rattle.std.specs.Str.{bytes_eq}
use Rattle.std.proofs.lemmas.Map.Text.{is_eq-slice_cmp}
use Rattle.std.proofs.lemmas.Slice.Eq.{bytes_eq-Decides}
use Rattle.wt_tree.specs.declared.kind.Ranges.{Ranges}
use Rattle.wt_tree.specs.Tree.{Label, Tree}
use Rattle.wt_lint.specs.declared.finding.Kind.TheVariants.{RepeatedCategory}
use Rattle.wt_lint.specs.declared.place.Place.{Place}
use Rattle.wt_lint.specs.Categories.{is_among, noted, title_of}
use Rattle.wt_lint.specs.Findings.{at_ranges, found, found_from, titles_after}
use Rattle.wt_lint.specs.Found.{Span}
use Rattle.wt_lint.specs.Kinds.{kinds}
use Rattle.wt_lint.specs.Nodes.{Stand, is_category, nodes, sort_of, top}
use Rattle.wt_page_laws.specs.Doubtful.{IsOneOf, IsRepeated, RepeatedAreFound, categories, categories_of}
use Rattle.wt_page_laws.proofs.Doubts.{and_both, and_left, and_right, in_either, in_front, in_kinds, in_rest, of_kinds, whole_each, whole_only}

-- ---- titles

among_is : (title : List ℕ) (titles : List (List ℕ)) → is_among title titles ≡ true → IsOneOf title titles
among_is title [] e = absurd (true≢false (sym e))
among_is title (x ∷ xs) e = by (bytes_eq title x) refl e (λ f. among_is title xs f)
  where
    by : (b : Bool) → bytes_eq title x ≡ b → (b || is_among title xs) ≡ true → (is_among title xs ≡ true → IsOneOf title xs) → IsOneOf title (x ∷ xs)
    by true a e f = inl ((bytes_eq-Decides title x).0 a)
    by false a e f = inr (f e)

is_there : (title : List ℕ) (titles : List (List ℕ)) → IsOneOf title titles → is_among title titles ≡ true
is_there title [] h = absurd h
is_there title (x ∷ xs) (inl e) = ap (λ b. b || is_among title xs) ((bytes_eq-Decides title x).1 e)
is_there title (x ∷ xs) (inr h) = by (bytes_eq title x) (is_there title xs h)
  where
    by : (b : Bool) → is_among title xs ≡ true → (b || is_among title xs) ≡ true
    by true e = refl
    by false e = e

same_title : (x y : List ℕ) → slice_cmp nat_cmp x y ≡ Equal → x ≡ y
same_title x y e = (bytes_eq-Decides x y).0 (sym (is_eq-slice_cmp x y) ∙ ap is_eq e)

in_noted : (x y : List ℕ) (titles : List (List ℕ)) → (x ≡ y) ⊎ IsOneOf x titles → IsOneOf x (noted y titles)
in_noted x y [] h = h
in_noted x y (z ∷ zs) h = by (slice_cmp nat_cmp y z) refl h (in_noted x y zs)
  where
    by : (o : Ordering) → slice_cmp nat_cmp y z ≡ o → (x ≡ y) ⊎ IsOneOf x (z ∷ zs) → ((x ≡ y) ⊎ IsOneOf x zs → IsOneOf x (noted y zs))
        → IsOneOf x (match_ordering o (y ∷ z ∷ zs) (z ∷ zs) (z ∷ noted y zs))
    by Less e k f = k
    by Equal e (inl s) f = inl (s ∙ same_title y z e)
    by Equal e (inr k) f = k
    by Greater e (inl s) f = inr (f (inl s))
    by Greater e (inr (inl s)) f = inl s
    by Greater e (inr (inr k)) f = inr (f (inr k))

of_noted : (x y : List ℕ) (titles : List (List ℕ)) → IsOneOf x (noted y titles) → (x ≡ y) ⊎ IsOneOf x titles
of_noted x y [] h = h
of_noted x y (z ∷ zs) h = by (slice_cmp nat_cmp y z) h (of_noted x y zs)
  where
    behind : (x ≡ y) ⊎ IsOneOf x zs → (x ≡ y) ⊎ IsOneOf x (z ∷ zs)
    behind (inl s) = inl s
    behind (inr k) = inr (inr k)

    by : (o : Ordering) → IsOneOf x (match_ordering o (y ∷ z ∷ zs) (z ∷ zs) (z ∷ noted y zs)) → (IsOneOf x (noted y zs) → (x ≡ y) ⊎ IsOneOf x zs)
        → (x ≡ y) ⊎ IsOneOf x (z ∷ zs)
    by Less k f = k
    by Equal k f = inr k
    by Greater (inl s) f = inr (inl s)
    by Greater (inr k) f = behind (f k)

-- ---- one node

record IsHere (titles : List (List ℕ)) (l : Label) (s : Span) : Type 0 where
  ranges : Ranges
  has : l.ranges ≡ Some ranges
  at : s ≡ (ranges.start, ranges.end)
  category : is_category (sort_of l.kind) ≡ true
  title : IsOneOf (title_of l) titles

here_only : (page : List ℕ) (titles : List (List ℕ)) (p : Place) (l : Label) (o : Option Ranges) (s : Span) → l.ranges ≡ o
    → IsOneOf (RepeatedCategory, s) (at_ranges page titles p l o) → IsHere titles l s
here_only page titles p l None s e h = absurd h
here_only page titles p l (Some r) s e h =
    let w = whole_only (is_category (sort_of l.kind) && is_among (title_of l) titles) r s
    (of_kinds RepeatedCategory s (λ j. found page titles p (sort_of l.kind) l r j) kinds h) in
    record {
      ranges = r;
      has = e;
      at = w.1;
      category = and_left (is_category (sort_of l.kind)) (is_among (title_of l) titles) w.0;
      title = among_is (title_of l) titles (and_right (is_category (sort_of l.kind)) (is_among (title_of l) titles) w.0);
    }

here_each : (page : List ℕ) (titles : List (List ℕ)) (p : Place) (l : Label) (s : Span) → IsHere titles l s
    → IsOneOf (RepeatedCategory, s) (at_ranges page titles p l l.ranges)
here_each page titles p l s h =
    subst (λ (o : Option Ranges). IsOneOf (RepeatedCategory, s) (at_ranges page titles p l o)) (sym h.has)
    (in_kinds RepeatedCategory s (λ j. found page titles p (sort_of l.kind) l h.ranges j) kinds
    (inr (inr (inr (inr (inr (inr (inr (inr (inr (inr (inl refl)))))))))))
    (subst (λ (x : Span). IsOneOf x (found page titles p (sort_of l.kind) l h.ranges RepeatedCategory)) (sym h.at)
    (whole_each (is_category (sort_of l.kind) && is_among (title_of l) titles) h.ranges
    (and_both (is_category (sort_of l.kind)) (is_among (title_of l) titles) h.category (is_there (title_of l) titles h.title)))))

-- ---- all nodes

-- after categories of these titles one of these is repeated
record Again (titles : List (List ℕ)) (cs : List Label) (s : Span) : Type 0 where
  before : List Label
  node : Label
  after : List Label
  are : cs ≡ before ++ (node ∷ after)
  ranges : Ranges
  has : node.ranges ≡ Some ranges
  at : s ≡ (ranges.start, ranges.end)
  first : IsOneOf (title_of node) titles ⊎ IsOneOf (title_of node) (map title_of before)

first_of : (l m : Label) (ls ms : List Label) → l ∷ ls ≡ m ∷ ms → (l ≡ m) × (ls ≡ ms)
first_of l m ls ms e = (cc, cc)

-- one category more
again_more : (titles : List (List ℕ)) (l : Label) (cs : List Label) (s : Span) → Again (noted (title_of l) titles) cs s → Again titles (l ∷ cs) s
again_more titles l cs s a = record {
  before = l ∷ a.before;
  node = a.node;
  after = a.after;
  are = ap (λ (xs : List Label). l ∷ xs) a.are;
  ranges = a.ranges;
  has = a.has;
  at = a.at;
  first = by a.first;
}
  where
    seen : (title_of a.node ≡ title_of l) ⊎ IsOneOf (title_of a.node) titles
        → IsOneOf (title_of a.node) titles ⊎ IsOneOf (title_of a.node) (map title_of (l ∷ a.before))
    seen (inl e) = inr (inl e)
    seen (inr k) = inl k

    by : IsOneOf (title_of a.node) (noted (title_of l) titles) ⊎ IsOneOf (title_of a.node) (map title_of a.before)
        → IsOneOf (title_of a.node) titles ⊎ IsOneOf (title_of a.node) (map title_of (l ∷ a.before))
    by (inl k) = seen (of_noted (title_of a.node) (title_of l) titles k)
    by (inr k) = inr (inr k)

abbrev cats_by : Label → List Stand → Bool → List Label
cats_by l ns b = if b then l ∷ categories_of ns else categories_of ns

abbrev titles_by : Label → List (List ℕ) → Bool → List (List ℕ)
titles_by l titles b = if b then noted (title_of l) titles else titles

repeated_only : (page : List ℕ) (titles : List (List ℕ)) (ns : List Stand) (s : Span) → IsOneOf (RepeatedCategory, s) (found_from page titles ns)
    → Again titles (categories_of ns) s
repeated_only page titles [] s h = absurd h
repeated_only page titles ((p, l) ∷ ns) s h =
    by (is_category (sort_of l.kind)) refl (in_either (RepeatedCategory, s) (at_ranges page titles p l l.ranges) (found_from page (titles_after l titles) ns) h)
    (λ more k. repeated_only page more ns s k)
  where
    by : (b : Bool) → is_category (sort_of l.kind) ≡ b
        → IsOneOf (RepeatedCategory, s) (at_ranges page titles p l l.ranges) ⊎ IsOneOf (RepeatedCategory, s) (found_from page (titles_by l titles b) ns)
        → ((more : List (List ℕ)) → IsOneOf (RepeatedCategory, s) (found_from page more ns) → Again more (categories_of ns) s)
        → Again titles (cats_by l ns b) s
    by true e (inl k) f =
        let w = here_only page titles p l l.ranges s refl k in
        record { before = []; node = l; after = categories_of ns; are = refl; ranges = w.ranges; has = w.has; at = w.at; first = inl w.title }
    by false e (inl k) f = let w = here_only page titles p l l.ranges s refl k in absurd (true≢false (sym w.category ∙ e))
    by true e (inr k) f = again_more titles l (categories_of ns) s (f (noted (title_of l) titles) k)
    by false e (inr k) f = f titles k

repeated_each : (page : List ℕ) (titles : List (List ℕ)) (ns : List Stand) (s : Span) → Again titles (categories_of ns) s
    → IsOneOf (RepeatedCategory, s) (found_from page titles ns)
repeated_each page titles [] s a = none a.before a.are
  where
    none : (before : List Label) → [] ≡ before ++ (a.node ∷ a.after) → IsOneOf (RepeatedCategory, s) (found_from page titles [])
    none [] e = absurd (cc)
    none (b ∷ before) e = absurd (cc)
repeated_each page titles ((p, l) ∷ ns) s a =
    by (is_category (sort_of l.kind)) refl a (λ more b. repeated_each page more ns s b)
  where
    later : IsOneOf (RepeatedCategory, s) (found_from page (titles_after l titles) ns) → IsOneOf (RepeatedCategory, s) (found_from page titles ((p, l) ∷ ns))
    later k = in_rest (RepeatedCategory, s) (at_ranges page titles p l l.ranges) (found_from page (titles_after l titles) ns) k

    titled : (b : Bool) → is_category (sort_of l.kind) ≡ b → IsOneOf (RepeatedCategory, s) (found_from page (titles_by l titles b) ns)
        → IsOneOf (RepeatedCategory, s) (found_from page (titles_after l titles) ns)
    titled b e k = subst (λ (v : Bool). IsOneOf (RepeatedCategory, s) (found_from page (titles_by l titles v) ns)) (sym e) k

    first_here : IsOneOf (title_of l) titles ⊎ IsOneOf (title_of l) [] → IsOneOf (title_of l) titles
    first_here (inl k) = k
    first_here (inr k) = absurd k

    kept : (node : Label) (before : List Label) → IsOneOf (title_of node) titles ⊎ IsOneOf (title_of node) (map title_of (l ∷ before))
        → IsOneOf (title_of node) (noted (title_of l) titles) ⊎ IsOneOf (title_of node) (map title_of before)
    kept node before (inl k) = inl (in_noted (title_of node) (title_of l) titles (inr k))
    kept node before (inr (inl e)) = inl (in_noted (title_of node) (title_of l) titles (inl e))
    kept node before (inr (inr k)) = inr k

    split : is_category (sort_of l.kind) ≡ true → (before : List Label) (node : Label) (after : List Label) (r : Ranges)
        → l ∷ categories_of ns ≡ before ++ (node ∷ after) → node.ranges ≡ Some r → s ≡ (r.start, r.end)
        → IsOneOf (title_of node) titles ⊎ IsOneOf (title_of node) (map title_of before)
        → (Again (noted (title_of l) titles) (categories_of ns) s → IsOneOf (RepeatedCategory, s) (found_from page (noted (title_of l) titles) ns))
        → IsOneOf (RepeatedCategory, s) (found_from page titles ((p, l) ∷ ns))
    split c [] node after r are has at first f =
        let same = (first_of l node (categories_of ns) after are).0 in
        in_front (RepeatedCategory, s) (at_ranges page titles p l l.ranges) (found_from page (titles_after l titles) ns)
        (here_each page titles p l s (record {
          ranges = r;
          has = ap (λ (n : Label). n.ranges) same ∙ has;
          at = at;
          category = c;
          title = first_here (subst (λ (n : Label). IsOneOf (title_of n) titles ⊎ IsOneOf (title_of n) []) (sym same) first);
        }))
    split c (b ∷ before) node after r are has at first f =
        let same = first_of l b (categories_of ns) (before ++ (node ∷ after)) are in
        later (titled true c (f (record {
          before = before;
          node = node;
          after = after;
          are = same.1;
          ranges = r;
          has = has;
          at = at;
          first = kept node before (subst (λ (n : Label). IsOneOf (title_of node) titles ⊎ IsOneOf (title_of node) (map title_of (n ∷ before))) (sym same.0) first);
        })))

    by : (b : Bool) → is_category (sort_of l.kind) ≡ b → Again titles (cats_by l ns b) s
        → ((more : List (List ℕ)) → Again more (categories_of ns) s → IsOneOf (RepeatedCategory, s) (found_from page more ns))
        → IsOneOf (RepeatedCategory, s) (found_from page titles ((p, l) ∷ ns))
    by true e w f = split e w.before w.node w.after w.ranges w.are w.has w.at w.first (f (noted (title_of l) titles))
    by false e w f = later (titled false e (f titles w))

pub repeated : (page : List ℕ) (t : Tree) → RepeatedAreFound page t
repeated page t = record {
  each = λ s r.
      repeated_each page [] (nodes top t) s
      (record { before = r.before; node = r.node; after = r.after; are = r.are; ranges = r.ranges; has = r.has; at = r.at; first = inr r.first });
  only = λ s h. back s (repeated_only page [] (nodes top t) s h);
}
  where
    seen : (node : Label) (before : List Label) → IsOneOf (title_of node) [] ⊎ IsOneOf (title_of node) (map title_of before) → IsOneOf (title_of node) (map title_of before)
    seen node before (inl k) = absurd k
    seen node before (inr k) = k

    back : (s : Span) → Again [] (categories t) s → IsRepeated t s
    back s a = record {
      before = a.before;
      node = a.node;
      after = a.after;
      are = a.are;
      ranges = a.ranges;
      has = a.has;
      at = a.at;
      first = seen a.node a.before a.first;
    }
