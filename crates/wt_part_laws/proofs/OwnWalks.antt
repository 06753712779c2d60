-- A walk over a tree of the page makes the same nodes as on a page without calls, whatever is round it.
use Rattle.std.proofs.Common.{◌≡◌, ℕ, ◌+◌, Bool, true, false, Option, None, Some, List, [], ◌∷◌, ◌++◌, length, refl, sym, ap, ap₂, ◌∙◌, cond}
use Rattle.std.specs.Prelude.{◌&&◌, ◌||◌}
use Rattle.std.specs.List.{list_all, list_any}
use Rattle.wt_tree.specs.Kinds.{is_leaf}
use Rattle.wt_tree.specs.Tree.{tree, Trees, more, trees}
use Rattle.wt_span.specs.Items.{Item, source, sources, call_of}
use Rattle.wt_span.specs.Origins.{OuterCall}
use Rattle.wt_span.specs.Cuts.{text_by}
use Rattle.wt_inline.specs.ItemTree.{Head, ItemTree, inner, ItemTrees, nothing, further, tree_items, held_by_all}
use Rattle.wt_annotated.specs.Annotated.{kept_label}
use Rattle.wt_annotated.specs.Clean.{is_no_call, is_page, is_body, own_by}
use Rattle.wt_annotated.specs.GroupData.{group_data}
use Rattle.wt_annotated.specs.Labels.{width, label_at}
use Rattle.wt_annotated.specs.Seams.{last_of, first_of, parted, text_step, text_from}
use Rattle.wt_annotated.specs.Walked.{clean_at, Near, near_runs, walked, near}
use Rattle.wt_annotated.specs.WithoutCalls.{inside_by, InsideOf, placed, all_placed}
use Rattle.wt_annotated.proofs.Calls.{all_split}
use Rattle.wt_annotated.proofs.Ends.{both, false_true}
use Rattle.wt_annotated.proofs.Seams.{first_append, last_append}
use Rattle.wt_part_laws.specs.Placeless.{placeless_label, placeless, all_placeless}
use Rattle.wt_part_laws.specs.Rounded.{HasItems, AllHaveItems}
use Rattle.wt_part_laws.proofs.SameWalks.{label_same}
use Rattle.wt_part_laws.proofs.RunCuts.{FreeBefore, near_alone}

abbrev pub OfPage : List Item → Type 0
OfPage xs = list_all is_page xs ≡ true

abbrev pub HasPage : List Item → Type 0
HasPage xs = list_any is_page xs ≡ true

-- ---- cuts beside items of the page

no_call : (o : Option ℕ) → is_no_call o ≡ true → o ≡ None
no_call None e = refl
no_call (Some k) e = false_true e

pub behind_free : (o p : Option ℕ) → o ≡ None → parted o p ≡ true
behind_free o p e = ap (λ (q : Option ℕ). parted q p) e

none_free : (o : Option ℕ) → parted o None ≡ true
none_free None = refl
none_free (Some k) = refl

pub before_free : (o p : Option ℕ) → p ≡ None → parted o p ≡ true
before_free o p e = ap (parted o) e ∙ none_free o

last_more : (o : Option ℕ) (xs : List Item) → OfPage xs → o ≡ None → last_of o xs ≡ None
last_more o [] p e = e
last_more o (x ∷ xs) p e = let r = both (is_page x) (list_all is_page xs) p in last_more (call_of x) xs r.1 (no_call (call_of x) r.0)

pub last_own : (o : Option ℕ) (xs : List Item) → OfPage xs → HasPage xs → last_of o xs ≡ None
last_own o [] p h = false_true h
last_own o (x ∷ xs) p h = let r = both (is_page x) (list_all is_page xs) p in last_more (call_of x) xs r.1 (no_call (call_of x) r.0)

pub first_own : (xs : List Item) (o : Option ℕ) → OfPage xs → HasPage xs → first_of xs o ≡ None
first_own [] o p h = false_true h
first_own (x ∷ xs) o p h = no_call (call_of x) (both (is_page x) (list_all is_page xs) p).0

-- between two parts of items of the page
part_free : (o : Option ℕ) (xs ys : List Item) (p : Option ℕ) → OfPage xs → OfPage ys → HasPage (xs ++ ys) → parted (last_of o xs) (first_of ys p) ≡ true
part_free o [] ys p e f h = before_free o (first_of ys p) (first_own ys p f h)
part_free o (x ∷ xs) ys p e f h =
    let r = both (is_page x) (list_all is_page xs) e in
    behind_free (last_of (call_of x) xs) (first_of ys p) (last_more (call_of x) xs r.1 (no_call (call_of x) r.0))

-- ---- what is on the page for them

step_own : (calls : List OuterCall) (o : Option ℕ) (x : Item) → is_page x ≡ true → text_step calls o x ≡ source x
step_own calls o x e =
    let is : call_of x ≡ None = no_call (call_of x) e in
    ap (λ v. cond v (text_by calls (call_of x) (source x)) []) (before_free o (call_of x) is)
    ∙ ap (λ q. text_by calls q (source x)) is

pub text_own : (calls : List OuterCall) (o : Option ℕ) (xs : List Item) → OfPage xs → text_from calls o xs ≡ sources xs
text_own calls o [] p = refl
text_own calls o (x ∷ xs) p =
    let r = both (is_page x) (list_all is_page xs) p in
    ap₂ (λ cs2 bs. cs2 ++ bs) (step_own calls o x r.0) (text_own calls (call_of x) xs r.1)

-- ---- it is clean

all_true : (a b c d e f : Bool) → a ≡ true → b ≡ true → c ≡ true → d ≡ true → e ≡ true → f ≡ true → ((a && (b && (c && d))) && (e && f)) ≡ true
all_true true true true true true true p q r s t u = refl
all_true false b c d e f p q r s t u = false_true p
all_true true false c d e f p q r s t u = false_true q
all_true true true false d e f p q r s t u = false_true r
all_true true true true false e f p q r s t u = false_true s
all_true true true true true false f p q r s t u = false_true t
all_true true true true true true false p q r s t u = false_true u

or_true : (a b : Bool) → b ≡ true → (a || b) ≡ true
or_true true b e = refl
or_true false b e = e

page_joined : (xs ys : List Item) → OfPage xs → OfPage ys → OfPage (xs ++ ys)
page_joined [] ys p q = q
page_joined (x ∷ xs) ys p q =
    let r = both (is_page x) (list_all is_page xs) p in ap (λ v. v && list_all is_page (xs ++ ys)) r.0 ∙ page_joined xs ys r.1 q

own_by_page : (is : Bool) (q i c : List Item) → OfPage q → OfPage i → OfPage c → OfPage (own_by is q i c)
own_by_page true q i c e f g = page_joined q (i ++ c) e (page_joined i c f g)
own_by_page false q i c e f g = page_joined q c e g

-- the same items, parted further to the right
parted_right : (xs ys zs : List Item) → HasPage (xs ++ (ys ++ zs)) → HasPage ((xs ++ ys) ++ zs)
parted_right [] ys zs h = h
parted_right (x ∷ xs) ys zs h = more_right (is_page x) (parted_right xs ys zs) h
  where
    more_right : (v : Bool) → (HasPage (xs ++ (ys ++ zs)) → HasPage ((xs ++ ys) ++ zs)) → (v || list_any is_page (xs ++ (ys ++ zs))) ≡ true
        → (v || list_any is_page ((xs ++ ys) ++ zs)) ≡ true
    more_right true f e = refl
    more_right false f e = f e

pub own_clean : (o p : Option ℕ) (t : ItemTree) → OfPage (tree_items t) → HasPage (tree_items t) → clean_at o p t ≡ true
own_clean o p (inner h q ts c) e has =
    let i : List Item = held_by_all ts in
    let r = all_split q (i ++ c) e in
    let s = all_split i c r.1 in
    let first : parted o (first_of q (first_of i (first_of c p))) ≡ true =
    ap (λ x. parted o (first_of q x)) (sym (first_append i c p)) ∙ ap (parted o) (sym (first_append q (i ++ c) p))
    ∙ before_free o (first_of (q ++ (i ++ c)) p) (first_own (q ++ (i ++ c)) p e has) in
    let second : parted (last_of o q) (first_of i (first_of c p)) ≡ true =
    ap (parted (last_of o q)) (sym (first_append i c p)) ∙ part_free o q (i ++ c) p r.0 r.1 has in
    let third : parted (last_of (last_of o q) i) (first_of c p) ≡ true =
    ap (λ x. parted x (first_of c p)) (sym (last_append o q i))
    ∙ part_free o (q ++ i) c p (page_joined q i r.0 s.0) s.1 (parted_right q i c has) in
    let fourth : parted (last_of (last_of (last_of o q) i) c) p ≡ true =
    ap (λ x. parted x p) (sym (last_append (last_of o q) i c) ∙ sym (last_append o q (i ++ c)))
    ∙ behind_free (last_of o (q ++ (i ++ c))) p (last_own o (q ++ (i ++ c)) e has) in
    all_true (parted o (first_of q (first_of i (first_of c p)))) (parted (last_of o q) (first_of i (first_of c p)))
    (parted (last_of (last_of o q) i) (first_of c p)) (parted (last_of (last_of (last_of o q) i) c) p)
    (list_all is_page (own_by (is_leaf h.kind) q i c)) (is_body h.kind || list_any is_page (q ++ (i ++ c)))
    first second third fourth (own_by_page (is_leaf h.kind) q i c r.0 s.0 s.1) (or_true (is_body h.kind) (list_any is_page (q ++ (i ++ c))) has)

-- ---- the walk

pub has_page : (t : ItemTree) → HasItems t → HasPage (tree_items t)
has_page (inner h q ts c) e = e.0

-- the cut before siblings of the page, behind an item of the page, is free
own_before : (calls : List OuterCall) (o : Option ℕ) (at : ℕ) (p : Option ℕ) (ts : ItemTrees) → o ≡ None → FreeBefore (near calls (group_data calls) o at p ts)
own_before calls o at p nothing e = tt
own_before calls o at p (further t ts) e = behind_free o (first_of (tree_items t) (first_of (held_by_all ts) p)) e

inside_own : (is : Bool) (us vs : Trees) (A : Type 0) → InsideOf is A → (A → all_placeless us ≡ all_placeless vs)
    → all_placeless (inside_by is us) ≡ all_placeless (inside_by is vs)
inside_own true us vs A m e = refl
inside_own false us vs A m e = e m

label_by : (is : Bool) (h : Head) (at : ℕ) (q own c : List Item)
    → placeless_label (kept_label is h at (sources own) (sources q) (sources c)) ≡ placeless_label (label_at at 0 is h q own c)
unfolding label_at
label_by true h at q own c = refl
label_by false h at q own c = refl

mutual
  pub walk_own : (calls : List OuterCall) (o : Option ℕ) (at : ℕ) (p : Option ℕ) (before : List Item) (t : ItemTree) → OfPage (tree_items t) → HasItems t
      → placeless (walked calls (group_data calls) o at p t) ≡ placeless (placed before t)
  walk_own calls o at p before (inner k q ts c) e has =
      let i : List Item = held_by_all ts in
      let all : List Item = q ++ (i ++ c) in
      let r = all_split q (i ++ c) e in
      let s = all_split i c r.1 in
      let n : Option ℕ = last_of (last_of o q) i in
      let at2 : ℕ = at + length (text_from calls o q) in
      ap₂ (λ l us. tree l us)
      (label_same (is_leaf k.kind) k at (width before) (text_from calls o all) (text_from calls o q) (text_from calls n c) (sources all) (sources q) (sources c)
      (text_own calls o all e) (text_own calls o q r.0) (text_own calls n c s.1) ∙ label_by (is_leaf k.kind) k (width before) q all c)
      (inside_own (is_leaf k.kind) (trees (near_runs calls (group_data calls) (near calls (group_data calls) (last_of o q) at2 (first_of c p) ts)))
      (all_placed (before ++ q) ts) (AllHaveItems ts) has.1
      (siblings_own calls (last_of o q) at2 (first_of c p) (before ++ q) ts s.0))

  siblings_own : (calls : List OuterCall) (o : Option ℕ) (at : ℕ) (p : Option ℕ) (before : List Item) (ts : ItemTrees) → OfPage (held_by_all ts)
      → AllHaveItems ts
      → all_placeless (trees (near_runs calls (group_data calls) (near calls (group_data calls) o at p ts))) ≡ all_placeless (all_placed before ts)
  siblings_own calls o at p before nothing e has = refl
  siblings_own calls o at p before (further t ts) e has =
      let r = all_split (tree_items t) (held_by_all ts) e in
      let q : Option ℕ = first_of (held_by_all ts) p in
      let o2 : Option ℕ = last_of o (tree_items t) in
      let at2 : ℕ = at + length (text_from calls o (tree_items t)) in
      let c : Near = record {
        tree = t;
        before = o;
        after = q;
        byte = at;
        free = parted o (first_of (tree_items t) q);
        clean = clean_at o q t;
        whole = walked calls (group_data calls) o at q t;
      } in
      ap (λ us. all_placeless (trees us))
      (near_alone calls c (near calls (group_data calls) o2 at2 p ts) (own_clean o q t r.0 (has_page t has.0))
      (own_before calls o2 at2 p ts (last_own o (tree_items t) r.0 (has_page t has.0))))
      ∙ ap₂ more (walk_own calls o at q before t r.0 has.0) (siblings_own calls o2 at2 p (before ++ tree_items t) ts r.1 has.1)
