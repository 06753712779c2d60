-- Where no item comes from a call, each node is kept, and its place and source are those of the items before and in it.
use Rattle.std.proofs.Common.{◌≡◌, ℕ, zero, suc, ◌+◌, Bool, true, false, Option, None, Some, List, [], ◌∷◌, ◌++◌, length, map, drop, refl, sym, ap, ◌∙◌, cond, arith, length-append, append_assoc, append-nil}
use Rattle.std.specs.Prelude.{slice_get, not}
use Rattle.std.specs.List.{list_all}
use Rattle.wt_tree.specs.Kinds.{is_leaf}
use Rattle.wt_tree.specs.Tree.{tree, Trees, more}
use Rattle.wt_span.specs.Items.{Item, source, sources, call_of}
use Rattle.wt_span.specs.Origins.{OuterCall, same_call}
use Rattle.wt_span.specs.Cuts.{call_of_item, is_free, text_by, origin_text, page_of, text_at, text_between, place}
use Rattle.wt_span.specs.Runs.{put, runs}
use Rattle.wt_inline.specs.ItemTree.{Head, ItemTree, inner, ItemTrees, nothing, further, tree_items, held_by_all}
use Rattle.wt_annotated.specs.Labels.{width, label_at}
use Rattle.wt_annotated.specs.WithoutCalls.{inside_by, placed as placed_behind, all_placed as all_placed_behind, InsideOf, holds_page, NoneEmpty, AllNonEmpty}
use Rattle.wt_annotated.specs.Clean.{is_no_call, is_page, own_by, is_clean}
use Rattle.wt_annotated.specs.Grouped.{group, Child, is_tied, of_runs, grouped, children}
use Rattle.wt_annotated.specs.Annotated.{kept_label, placed, all_placed}
use Rattle.wt_annotated.proofs.Calls.{at_get, at_rest, all_split}
use Rattle.wt_annotated.proofs.Ends.{false_true, both}
use Rattle.wt_annotated.proofs.Slices.{place_is}
use Rattle.wt_annotated.proofs.Tiles.{Carried}

abbrev pub OfPage : List Item → Type 0
OfPage xs = list_all is_page xs ≡ true

-- ---- cuts and bytes

pub none_of : (o : Option ℕ) → is_no_call o ≡ true → o ≡ None
none_of None e = refl
none_of (Some k) e = false_true e

no_call_at : (all : List Item) (n : ℕ) → OfPage all → call_of_item (slice_get all n) ≡ None
no_call_at [] zero p = refl
no_call_at [] (suc n) p = refl
no_call_at (x ∷ xs) zero p = none_of (call_of x) (both (is_page x) (list_all is_page xs) p).0
no_call_at (x ∷ xs) (suc n) p = no_call_at xs n (both (is_page x) (list_all is_page xs) p).1

all_free : (all : List Item) (n : ℕ) → OfPage all → is_free all n ≡ true
all_free all zero p = refl
all_free all (suc n) p = ap (λ o. not (same_call o (call_of_item (slice_get all (suc n))))) (no_call_at all n p)

-- what stands on the page for items of the page are their bytes
own_at : (calls : List OuterCall) (all : List Item) (n : ℕ) (x : Item) (rest : List Item) → drop n all ≡ x ∷ rest → is_page x ≡ true → is_free all n ≡ true
    → text_at calls all n ≡ source x
own_at calls all n x rest e p f =
    ap (λ v. cond v (origin_text calls (slice_get all n)) []) f ∙ ap (origin_text calls) (at_get all n x rest e)
    ∙ ap (λ o. text_by calls o (source x)) (none_of (call_of x) p)

page_between : (calls : List OuterCall) (all : List Item) (n : ℕ) (xs ys : List Item) → drop n all ≡ xs ++ ys → OfPage all → OfPage xs
    → text_between calls all n (length xs) ≡ sources xs
page_between calls all n [] ys e p q = refl
page_between calls all n (x ∷ xs) ys e p q =
    let r = both (is_page x) (list_all is_page xs) q in
    ap (λ bs. bs ++ text_between calls all (suc n) (length xs)) (own_at calls all n x (xs ++ ys) e r.0 (all_free all n p))
    ∙ ap (λ bs. source x ++ bs) (page_between calls all (suc n) xs ys (at_rest all n x (xs ++ ys) e) p r.1)

drop_front : (xs ys : List Item) → drop (length xs) (xs ++ ys) ≡ ys
drop_front [] ys = refl
drop_front (x ∷ xs) ys = drop_front xs ys

page_place : (calls : List OuterCall) (all before after : List Item) → all ≡ before ++ after → OfPage all → place calls all (length before) ≡ width before
page_place calls all before after e p =
    let q = all_split before after (ap (list_all is_page) (sym e) ∙ p) in
    place_is calls all (length before) ∙ ap length (page_between calls all 0 before after e p q.0)

-- what stands there, where it begins behind these items
stands : (all before xs after : List Item) → all ≡ before ++ (xs ++ after) → drop (length before) all ≡ xs ++ after
stands all before xs after e = ap (drop (length before)) e ∙ drop_front before (xs ++ after)

part_page : (all before xs after : List Item) → all ≡ before ++ (xs ++ after) → OfPage all → OfPage xs
part_page all before xs after e p =
    let q = all_split before (xs ++ after) (ap (list_all is_page) (sym e) ∙ p) in
    (all_split xs after q.1).0

text_page : (calls : List OuterCall) (all before xs after : List Item) → all ≡ before ++ (xs ++ after) → OfPage all
    → text_between calls all (length before) (length xs) ≡ sources xs
text_page calls all before xs after e p = page_between calls all (length before) xs after (stands all before xs after e) p (part_page all before xs after e p)

pub own_page : (calls : List OuterCall) (xs : List Item) → OfPage xs → page_of calls xs ≡ sources xs
own_page calls xs p = page_between calls xs 0 xs [] (sym (append-nil xs)) p p

-- ---- clean nodes

own_all : (is : Bool) (opening inside closing : List Item) → OfPage opening → OfPage (inside ++ closing) → OfPage closing
    → OfPage (own_by is opening inside closing)
own_all true [] inside closing o r c = r
own_all true (x ∷ xs) inside closing o r c = let q = both (is_page x) (list_all is_page xs) o in rw q.0 (own_all true xs inside closing q.1 r c)
own_all false [] inside closing o r c = c
own_all false (x ∷ xs) inside closing o r c = let q = both (is_page x) (list_all is_page xs) o in rw q.0 (own_all false xs inside closing q.1 r c)

all_clean : (all : List Item) (n : ℕ) (t : ItemTree) → OfPage all → OfPage (tree_items t) → holds_page t ≡ true → is_clean all n t ≡ true
all_clean all n (inner h o ts c) p q l =
    let r = all_split o (held_by_all ts ++ c) q in
    let s = all_split (held_by_all ts) c r.1 in
    let own = own_all (is_leaf h.kind) o (held_by_all ts) c r.0 r.1 s.1 in
    rw (
      all_free all n p,
      all_free all (n + length o) p,
      all_free all (n + length o + length (held_by_all ts)) p,
      all_free all (n + length o + length (held_by_all ts) + length c) p,
      own,
    ) l

-- ---- runs

put_single : (all : List Item) (c : Child) (cs : List Child) → OfPage all → put (is_tied all) c (map (λ d. d ∷ []) cs) ≡ (c ∷ []) ∷ map (λ d. d ∷ []) cs
put_single all c [] p = refl
put_single all c (d ∷ ds) p = ap (λ v. cond (not v) ((c ∷ d ∷ []) ∷ map (λ e. e ∷ []) ds) ((c ∷ []) ∷ (d ∷ []) ∷ map (λ e. e ∷ []) ds))
    (all_free all d.from p)

singles : (all : List Item) (cs : List Child) → OfPage all → runs (is_tied all) cs ≡ map (λ c. c ∷ []) cs
singles all [] p = refl
singles all (c ∷ cs) p = ap (put (is_tied all) c) (singles all cs p) ∙ put_single all c cs p

-- ---- labels

label_by : (is : Bool) (h : Head) (at : ℕ) (o own c : List Item) → kept_label is h at (sources own) (sources o) (sources c) ≡ label_at at 0 is h o own c
unfolding label_at
label_by true h at o own c = refl
label_by false h at o own c = refl

-- ---- trees

inside_same : (is : Bool) (us vs : Trees) (A : Type 0) → InsideOf is A → (A → us ≡ vs) → inside_by is us ≡ inside_by is vs
inside_same true us vs A m e = refl
inside_same false us vs A m e = e m

mutual
  pub same_placed : (calls : List OuterCall) (carried : Carried) (all before after : List Item) (t : ItemTree) → all ≡ before ++ (tree_items t ++ after)
      → OfPage all
      → NoneEmpty t
      → placed calls carried all (grouped all (length before) t) ≡ placed_behind before t
  same_placed calls carried all before after (inner h o ts c) e p m =
      let is : Bool = is_leaf h.kind in
      let n : ℕ = length before in
      let i : List Item = held_by_all ts in
      let rest : all ≡ (before ++ o) ++ (i ++ (c ++ after)) =
      e ∙ ap (λ xs. before ++ xs) (append_assoc o (i ++ c) after ∙ ap (λ xs. o ++ xs) (append_assoc i c after))
      ∙ sym (append_assoc before o (i ++ (c ++ after))) in
      let first : all ≡ before ++ (o ++ ((i ++ c) ++ after)) = e ∙ ap (λ xs. before ++ xs) (append_assoc o (i ++ c) after) in
      let last : all ≡ ((before ++ o) ++ i) ++ (c ++ after) = rest ∙ sym (append_assoc (before ++ o) i (c ++ after)) in
      let k : length (before ++ o) ≡ n + length o = length-append before o in
      let j : length ((before ++ o) ++ i) ≡ n + length o + length i = omega (arith, length-append (before ++ o) i, k) in
      let w : length (o ++ (i ++ c)) ≡ length o + length i + length c = omega (arith, length-append o (i ++ c), length-append i c) in
      let whole : text_between calls all n (length o + length i + length c) ≡ sources (o ++ (i ++ c)) = ap (text_between calls all n) (sym w)
      ∙ text_page calls all before (o ++ (i ++ c)) after e p in
      let front : text_between calls all n (length o) ≡ sources o = text_page calls all before o ((i ++ c) ++ after) first p in
      let back : text_between calls all (n + length o + length i) (length c) ≡ sources c = ap (λ x. text_between calls all x (length c)) (sym j)
      ∙ text_page calls all ((before ++ o) ++ i) c after last p in
      let at : place calls all n ≡ width before = page_place calls all before (tree_items (inner h o ts c) ++ after) e p in
      let cs : List Child = children all (n + length o) ts in
      let us : Trees = all_placed calls carried all (of_runs (runs (is_tied all) cs)) in
      let inside : AllNonEmpty ts → us ≡ all_placed_behind (before ++ o) ts = λ q.
      ap (λ rs. all_placed calls carried all (of_runs rs)) (singles all cs p)
      ∙ ap (λ x. all_placed calls carried all (of_runs (map (λ d. d ∷ []) (children all x ts)))) (sym k)
      ∙ all_same calls carried all (before ++ o) (c ++ after) ts rest p q in
      ap (λ x. tree (kept_label is h x (text_between calls all n (length o + length i + length c)) (text_between calls all n (length o))
      (text_between calls all (n + length o + length i) (length c))) (inside_by is us)) at
      ∙ ap (λ x. tree (kept_label is h (width before) x (text_between calls all n (length o)) (text_between calls all (n + length o + length i) (length c)))
      (inside_by is us)) whole
      ∙ ap (λ x. tree (kept_label is h (width before) (sources (o ++ (i ++ c))) x (text_between calls all (n + length o + length i) (length c)))
      (inside_by is us)) front
      ∙ ap (λ x. tree (kept_label is h (width before) (sources (o ++ (i ++ c))) (sources o) x) (inside_by is us)) back
      ∙ ap (λ l. tree l (inside_by is us)) (label_by is h (width before) o (o ++ (i ++ c)) c)
      ∙ ap (tree (label_at (width before) 0 is h o (o ++ (i ++ c)) c))
      (inside_same is us (all_placed_behind (before ++ o) ts) (AllNonEmpty ts) m inside)

  all_same : (calls : List OuterCall) (carried : Carried) (all before after : List Item) (ts : ItemTrees) → all ≡ before ++ (held_by_all ts ++ after)
      → OfPage all → AllNonEmpty ts
      → all_placed calls carried all (of_runs (map (λ d. d ∷ []) (children all (length before) ts))) ≡ all_placed_behind before ts
  all_same calls carried all before after nothing e p m = refl
  all_same calls carried all before after (further t ts) e p m =
      let n : ℕ = length before in
      let first : all ≡ before ++ (tree_items t ++ (held_by_all ts ++ after)) = e
      ∙ ap (λ xs. before ++ xs) (append_assoc (tree_items t) (held_by_all ts) after) in
      let rest : all ≡ (before ++ tree_items t) ++ (held_by_all ts ++ after) = first ∙ sym (append_assoc before (tree_items t) (held_by_all ts ++ after)) in
      let k : length (before ++ tree_items t) ≡ n + length (tree_items t) = length-append before (tree_items t) in
      let clean : is_clean all n t ≡ true = all_clean all n t p (part_page all before (tree_items t) (held_by_all ts ++ after) first p) m.0 in
      let us : Trees = all_placed calls carried all (of_runs (map (λ d. d ∷ []) (children all (n + length (tree_items t)) ts))) in
      ap (λ v. more (placed calls carried all (cond v (grouped all n t) (group n (length (tree_items t)) (further t nothing)))) us) clean
      ∙ ap (λ u. more u us) (same_placed calls carried all before (held_by_all ts ++ after) t first p m.1)
      ∙ ap (λ x. more (placed_behind before t) (all_placed calls carried all (of_runs (map (λ d. d ∷ []) (children all x ts))))) (sym k)
      ∙ ap (more (placed_behind before t)) (all_same calls carried all (before ++ tree_items t) after ts rest p m.2)
