-- What the walk over a tree takes.
use Rattle.std.proofs.Common.{◌≡◌, ℕ, ◌+◌, ◌<◌, ◌≤◌, Bool, false, List, [], ◌∷◌, ◌++◌, length, take, get_or, refl, sym, ap, ◌∙◌, subst, append_assoc, append-nil, arith, zero, suc}
use Rattle.std.specs.Prelude.{Option, Some, None, if◌then◌else◌}
use Rattle.std.specs.List.{AllByRecursion, flat_map}
use Rattle.std.proofs.lemmas.List.{take_more}
use Rattle.std.proofs.lemmas.Grind.{flat_map-append}
use Rattle.wt_tree.specs.declared.kind.Ranges.{Ranges}
use Rattle.wt_tree.specs.declared.node.Node.{Node, out-Node}
use Rattle.wt_tree.specs.Source.{flat}
use Rattle.wt_tree.specs.Tiling.{is_group}
use Rattle.wt_tree.specs.Tree.{Label, Tree, tree, Trees, none, more, label}
use Rattle.wt_tree.specs.View.{label_of, view, views}
use Rattle.wt_tree.proofs.Views.{view_out}
use Rattle.wt_annotated.specs.Reached.{AreReachedSlices, reached, reached_in_all}
use Rattle.wt_annotated.specs.Slices.{IsSlice, StandsIn, opening_of}
use Rattle.wt_lint.specs.declared.place.Place.{Place}
use Rattle.wt_lint.specs.declared.place.Sort.{Sort}
use Rattle.wt_lint.specs.declared.search.Search.{Search}
use Rattle.wt_lint.specs.Findings.{at_range, at_ranges, found_from, titles_after, titles_from}
use Rattle.wt_lint.specs.Found.{each}
use Rattle.wt_lint.specs.Nodes.{Stand, below, nodes, nodes_in_all, sort_of, start_of}
use Rattle.wt_lint.specs.Search.{Takes}
use Rattle.wt_lint.specs.Titles.{names}

-- ---- one after another

titles_join : (titles : List (List ℕ)) (ms ns : List Stand) → titles_from titles (ms ++ ns) ≡ titles_from (titles_from titles ms) ns
titles_join titles [] ns = refl
titles_join titles ((p, l) ∷ ms) ns = titles_join (titles_after l titles) ms ns

found_join : (page : List ℕ) (titles : List (List ℕ)) (ms ns : List Stand)
    → found_from page titles (ms ++ ns) ≡ found_from page titles ms ++ found_from page (titles_from titles ms) ns
found_join page titles [] ns = refl
found_join page titles ((p, l) ∷ ms) ns =
    let here = at_ranges page titles p l l.ranges in
    ap (λ fs. here ++ fs) (found_join page (titles_after l titles) ms ns)
    ∙ sym (append_assoc here (found_from page (titles_after l titles) ms) (found_from page (titles_from (titles_after l titles) ms) ns))

pub takes_more : (page : List ℕ) (ms ns : List Stand) (a b c : Search) → Takes page ms a b → Takes page ns b c → Takes page (ms ++ ns) a c
takes_more page ms ns a b c h k = record {
  found = k.found ∙ ap (λ fs. fs ++ found_from page (names b.titles) ns) h.found
      ∙ append_assoc (each a.found.items) (found_from page (names a.titles) ms) (found_from page (names b.titles) ns)
      ∙ ap (λ (ts : List (List ℕ)). each a.found.items ++ (found_from page (names a.titles) ms ++ found_from page ts ns)) h.titles
      ∙ ap (λ fs. each a.found.items ++ fs) (sym (found_join page (names a.titles) ms ns));
  titles = k.titles ∙ ap (λ (ts : List (List ℕ)). titles_from ts ns) h.titles ∙ sym (titles_join (names a.titles) ms ns);
}

-- a node by itself
pub takes_one : (page : List ℕ) (p : Place) (l : Label) (r : Ranges) (a b : Search) → l.ranges ≡ Some r
    → each b.found.items ≡ each a.found.items ++ at_range page (names a.titles) p l r → names b.titles ≡ titles_after l (names a.titles)
    → Takes page ((p, l) ∷ []) a b
takes_one page p l r a b e f t = record {
  found = f ∙ ap (λ fs. each a.found.items ++ fs)
      (sym (append-nil (at_range page (names a.titles) p l r)) ∙ ap (λ o. at_ranges page (names a.titles) p l o ++ []) (sym e));
  titles = t;
}

-- ---- trees

-- what is below a node
abbrev below_node : Place → Node → List Stand
below_node p n =
    if is_group (out-Node n).kind then []
    else nodes_in_all (below p (sort_of (out-Node n).kind) (start_of (out-Node n).ranges)) (views (out-Node n).children)

nodes_out : (p : Place) (n : Node) → nodes p (view n) ≡ (p, label_of (out-Node n)) ∷ below_node p n
nodes_out p n = rw (view_out n) refl

-- a node that is no group, and then what stands in it
pub takes_tree : (page : List ℕ) (p : Place) (n : Node) (r : Ranges) (a b c : Search) → (out-Node n).ranges ≡ Some r → is_group (out-Node n).kind ≡ false
    → each b.found.items ≡ each a.found.items ++ at_range page (names a.titles) p (label_of (out-Node n)) r
    → names b.titles ≡ titles_after (label_of (out-Node n)) (names a.titles)
    → Takes page (nodes_in_all (below p (sort_of (out-Node n).kind) r.start) (views (out-Node n).children)) b c
    → Takes page (nodes p (view n)) a c
takes_tree page p n r a b c e g f t h =
    let s = sort_of (out-Node n).kind in
    let ts = views (out-Node n).children in
    let inside : below_node p n ≡ nodes_in_all (below p s r.start) ts =
    ap (λ (is : Bool). if is then [] else nodes_in_all (below p s (start_of (out-Node n).ranges)) ts) g
    ∙ ap (λ o. nodes_in_all (below p s (start_of o)) ts) e in
    subst (λ ns. Takes page ns a c) (sym (nodes_out p n ∙ ap (λ ns. (p, label_of (out-Node n)) ∷ ns) inside))
    (takes_more page ((p, label_of (out-Node n)) ∷ []) (nodes_in_all (below p s r.start) ts) a b c
    (takes_one page p (label_of (out-Node n)) r a b e f t) h)

-- the same with what the code has in hand
pub takes_node : (page : List ℕ) (p q : Place) (s : Sort) (ns : List Node) (n : Node) (r : Ranges) (a b c : Search) → (out-Node n).ranges ≡ Some r
    → is_group (out-Node n).kind ≡ false → s ≡ sort_of (out-Node n).kind → q ≡ below p s r.start → ns ≡ (out-Node n).children
    → each b.found.items ≡ each a.found.items ++ at_range page (names a.titles) p (label_of (out-Node n)) r
    → names b.titles ≡ titles_after (label_of (out-Node n)) (names a.titles)
    → Takes page (nodes_in_all q (views ns)) b c
    → Takes page (nodes p (view n)) a c
takes_node page p q s ns n r a b c e g sort place children f t h =
    takes_tree page p n r a b c e g f t
    (subst (λ (m : List Node). Takes page (nodes_in_all (below p (sort_of (out-Node n).kind) r.start) (views m)) b c) children
    (subst (λ (x : Sort). Takes page (nodes_in_all (below p x r.start) (views ns)) b c) sort
    (subst (λ (x : Place). Takes page (nodes_in_all x (views ns)) b c) place h)))

-- ---- several trees

pub nodes_views : (p : Place) (ns : List Node) → nodes_in_all p (views ns) ≡ flat_map (λ n. nodes p (view n)) ns
nodes_views p [] = refl
nodes_views p (n ∷ ns) = ap (λ ss. nodes p (view n) ++ ss) (nodes_views p ns)

pub takes_turn : (page : List ℕ) (p : Place) (a b c : Search) (xs : List Node) (i : ℕ) (x : Node) → i < length xs → x ≡ get_or xs i x
    → Takes page (flat_map (λ n. nodes p (view n)) (take i xs)) a b → Takes page (nodes p (view x)) b c
    → Takes page (flat_map (λ n. nodes p (view n)) (take (i + 1) xs)) a c
takes_turn page p a b c xs i x lt is h k =
    let f : Node → List Stand = λ n. nodes p (view n) in
    let e : flat_map f (take (i + 1) xs) ≡ flat_map f (take i xs) ++ nodes p (view x) =
    ap (flat_map f) (take_more xs i x lt ∙ ap (λ y. take i xs ++ y ∷ []) (sym is)) ∙ flat_map-append f (take i xs) (x ∷ [])
    ∙ ap (λ s. flat_map f (take i xs) ++ s) (append-nil (nodes p (view x))) in
    subst (λ ns. Takes page ns a c) (sym e) (takes_more page (flat_map f (take i xs)) (nodes p (view x)) a b c h k)

-- ---- slices

all_front : {X : Type 0} (P : X → Type 0) (xs ys : List X) → AllByRecursion P (xs ++ ys) → AllByRecursion P xs
all_front P [] ys h = tt
all_front P (x ∷ xs) ys h = (h.0, all_front P xs ys h.1)

all_back : {X : Type 0} (P : X → Type 0) (xs ys : List X) → AllByRecursion P (xs ++ ys) → AllByRecursion P ys
all_back P [] ys h = h
all_back P (x ∷ xs) ys h = all_back P xs ys h.1

-- the trees that are reached in a node
abbrev reached_below : Node → List Tree
reached_below n = if is_group (out-Node n).kind then [] else reached_in_all (views (out-Node n).children)

reached_out : (n : Node) → reached (view n) ≡ tree (label_of (out-Node n)) (views (out-Node n).children) ∷ reached_below n
reached_out n = rw (view_out n) refl

taken_apart : (page : List ℕ) (n : Node) → AreReachedSlices page (view n)
    → IsSlice page (tree (label_of (out-Node n)) (views (out-Node n).children)) × AllByRecursion (IsSlice page) (reached_below n)
taken_apart page n h = subst (AllByRecursion (IsSlice page)) (reached_out n) h

pub inside_sliced : (page : List ℕ) (n : Node) → AreReachedSlices page (view n) → is_group (out-Node n).kind ≡ false
    → AllByRecursion (IsSlice page) (reached_in_all (views (out-Node n).children))
inside_sliced page n h g =
    subst (AllByRecursion (IsSlice page)) (ap (λ (is : Bool). if is then [] else reached_in_all (views (out-Node n).children)) g)
    ((taken_apart page n h).1)

-- the range of a node lies in the page
range_lies : (page source opening closing : List ℕ) (o : Option Ranges) (r : Ranges) → o ≡ Some r → StandsIn page o source opening closing
    → (r.start ≤ r.end) × (r.end ≤ length page)
range_lies page source opening closing None r e h = absurd h
range_lies page source opening closing (Some q) r e h =
    let is : q ≡ r = cc in
    (subst (λ x. x.start ≤ x.end) is h.ordered, subst (λ x. x.end ≤ length page) is h.within)

pub lies : (page : List ℕ) (n : Node) (r : Ranges) → AreReachedSlices page (view n) → (out-Node n).ranges ≡ Some r
    → (r.start ≤ r.end) × (r.end ≤ length page)
lies page n r h e =
    let t = tree (label_of (out-Node n)) (views (out-Node n).children) in
    range_lies page (flat t) (opening_of (label t)) (label t).closing (out-Node n).ranges r e ((taken_apart page n h).0)

-- each of several
pub each_sliced : (page : List ℕ) (ns : List Node) (i : ℕ) (n : Node) → i < length ns → n ≡ get_or ns i n
    → AllByRecursion (IsSlice page) (reached_in_all (views ns)) → AreReachedSlices page (view n)
each_sliced page [] i n lt is h = absurd (omega (arith, lt))
each_sliced page (m ∷ ms) zero n lt is h =
    subst (λ x. AreReachedSlices page (view x)) (sym is) (all_front (IsSlice page) (reached (view m)) (reached_in_all (views ms)) h)
each_sliced page (m ∷ ms) (suc i) n lt is h =
    each_sliced page ms i n (omega (arith, lt)) is (all_back (IsSlice page) (reached (view m)) (reached_in_all (views ms)) h)

-- ---- the recursion ends

-- twice the number of nodes
abbrev mutual
  pub size : Tree → ℕ
  size (tree l ts) = 2 + size_of_all ts

  pub size_of_all : Trees → ℕ
  size_of_all none = 0
  size_of_all (more t ts) = size t + size_of_all ts

-- what stands in a node is smaller
pub smaller_inside : (n : Node) (ns : List Node) → ns ≡ (out-Node n).children → 1 + size_of_all (views ns) < size (view n)
smaller_inside n ns e = omega (arith, ap size (view_out n), ap (λ ms. size_of_all (views ms)) e)

-- one of several is no larger than all
pub one_of_all : (ns : List Node) (i : ℕ) (n : Node) → i < length ns → n ≡ get_or ns i n → size (view n) ≤ size_of_all (views ns)
one_of_all [] i n lt is = absurd (omega (arith, lt))
one_of_all (m ∷ ms) zero n lt is = omega (arith, ap (λ (x : Node). size (view x)) is)
one_of_all (m ∷ ms) (suc i) n lt is = omega (arith, one_of_all ms i n (omega (arith, lt)) is)
