-- The calls that begin in groups are all calls.
use Rattle.std.proofs.Common.{◌≡◌, ℕ, zero, suc, ◌+◌, Bool, true, false, Option, None, Some, List, [], ◌∷◌, ◌++◌, length, drop, refl, sym, ap, ◌∙◌, subst, cond, arith, length-append, append_assoc, append-nil}
use Rattle.std.specs.Prelude.{slice_get, ◌&&◌, ◌||◌}
use Rattle.std.specs.List.{list_all, list_any}
use Rattle.wt_tree.specs.Kinds.{is_leaf}
use Rattle.wt_span.specs.Items.{Item, call_of}
use Rattle.wt_span.specs.Cuts.{call_of_item, is_free}
use Rattle.wt_span.specs.Runs.{runs, AreRuns}
use Rattle.wt_span.proofs.RunLaws.{runs_are}
use Rattle.wt_inline.specs.ItemTree.{Head, ItemTree, inner, ItemTrees, nothing, further, tree_items, held_by_all}
use Rattle.wt_annotated.specs.Clean.{is_no_call, is_page, is_body, own_by, is_clean}
use Rattle.wt_annotated.specs.Grouped.{group, Child, is_tied, size_of_all, of_runs, grouped, children}
use Rattle.wt_annotated.specs.GroupParts.{Begun, begun_by, begun_at, begun}
use Rattle.wt_annotated.specs.Reached.{calls_in_groups, calls_in_all_groups}
use Rattle.wt_annotated.proofs.Ends.{false_true, both}

begun_append : (all : List Item) (n j k : ℕ) → begun all n (j + k) ≡ begun all n j ++ begun all (n + j) k
begun_append all n zero k =
    let e : 0 + k ≡ k = omega arith in
    let f : n ≡ n + 0 = omega arith in
    ap (begun all n) e ∙ ap (λ m. begun all m k) f
begun_append all n (suc j) k =
    let e : suc j + k ≡ suc (j + k) = omega arith in
    let f : suc n + j ≡ n + suc j = omega arith in
    ap (begun all n) e
    ∙ ap (λ bs. begun_at all n ++ bs) (begun_append all (suc n) j k)
    ∙ sym (append_assoc (begun_at all n) (begun all (suc n) j) (begun all (suc n + j) k))
    ∙ ap (λ m. (begun_at all n ++ begun all (suc n) j) ++ begun all m k) f

pub at_get : (all : List Item) (n : ℕ) (x : Item) (rest : List Item) → drop n all ≡ x ∷ rest → slice_get all n ≡ Some x
at_get [] zero x rest e = ap (λ ys. slice_get ys 0) e
at_get [] (suc n) x rest e = ap (λ ys. slice_get ys 0) e
at_get (y ∷ ys) zero x rest e = ap (λ zs. slice_get zs 0) e
at_get (y ∷ ys) (suc n) x rest e = at_get ys n x rest e

pub at_rest : (all : List Item) (n : ℕ) (x : Item) (rest : List Item) → drop n all ≡ x ∷ rest → drop (suc n) all ≡ rest
at_rest [] zero x rest e = ap (drop 1) e
at_rest [] (suc n) x rest e = ap (drop 1) e
at_rest (y ∷ ys) zero x rest e = ap (drop 1) e
at_rest (y ∷ ys) (suc n) x rest e = at_rest ys n x rest e

-- behind what stands there
pub behind : (all : List Item) (n : ℕ) (xs ys : List Item) → drop n all ≡ xs ++ ys → drop (n + length xs) all ≡ ys
behind all n [] ys e = let f : n + 0 ≡ n = omega arith in ap (λ m. drop m all) f ∙ e
behind all n (x ∷ xs) ys e =
    let f : n + length (x ∷ xs) ≡ suc n + length xs = omega arith in
    ap (λ m. drop m all) f ∙ behind all (suc n) xs ys (at_rest all n x (xs ++ ys) e)

none_by : (o : Option ℕ) (n : ℕ) (v : Bool) → is_no_call o ≡ true → cond v (begun_by n o) [] ≡ []
none_by None n true e = refl
none_by None n false e = refl
none_by (Some k) n v e = false_true e

-- no call begins among items of the page
page_none : (all : List Item) (n : ℕ) (xs ys : List Item) → drop n all ≡ xs ++ ys → list_all is_page xs ≡ true → begun all n (length xs) ≡ []
page_none all n [] ys e p = refl
page_none all n (x ∷ xs) ys e p =
    let q = both (is_page x) (list_all is_page xs) p in
    let first : begun_at all n ≡ [] = ap (λ o. cond (is_free all n) (begun_by n (call_of_item o)) []) (at_get all n x (xs ++ ys) e)
    ∙ none_by (call_of x) n (is_free all n) q.0 in
    ap (λ bs. bs ++ begun all (suc n) (length xs)) first ∙ page_none all (suc n) xs ys (at_rest all n x (xs ++ ys) e) q.1

pub all_split : (xs ys : List Item) → list_all is_page (xs ++ ys) ≡ true → (list_all is_page xs ≡ true) × (list_all is_page ys ≡ true)
all_split [] ys e = (refl, e)
all_split (x ∷ xs) ys e =
    let q = both (is_page x) (list_all is_page (xs ++ ys)) e in
    let r = all_split xs ys q.1 in
    (rw q.0 r.0, r.1)

-- a clean node's own items are the page's
own_page : (all : List Item) (n : ℕ) (h : Head) (opening : List Item) (ts : ItemTrees) (closing : List Item)
    → is_clean all n (inner h opening ts closing) ≡ true
    → list_all is_page (own_by (is_leaf h.kind) opening (held_by_all ts) closing) ≡ true
own_page all n h opening ts closing e =
    let own : Bool = list_all is_page (own_by (is_leaf h.kind) opening (held_by_all ts) closing) in
    let some : Bool = is_body h.kind || list_any is_page (opening ++ (held_by_all ts ++ closing)) in
    let d : Bool = is_free all (n + length opening + length (held_by_all ts) + length closing) in
    let c : Bool = is_free all (n + length opening + length (held_by_all ts)) in
    let b : Bool = is_free all (n + length opening) in
    let one = both (is_free all n) (b && (c && (d && (own && some)))) e in
    let two = both b (c && (d && (own && some))) one.1 in
    let three = both c (d && (own && some)) two.1 in
    let four = both d (own && some) three.1 in
    (both own some four.1).0

-- ---- children

abbrev Chain : List Item → ℕ → List Child → Type 0
Chain all i [] = Unit {0}
Chain all i (c ∷ cs) = (c.from ≡ i) × (c.clean ≡ true → calls_in_groups all c.whole ≡ begun all c.from c.size) × Chain all (c.from + c.size) cs

chain_rest : (all : List Item) (i : ℕ) (c : Child) (cs others : List Child) → Chain all i (c ∷ cs ++ others)
    → Chain all (c.from + size_of_all (c ∷ cs)) others
chain_rest all i c [] others h =
    let e : c.from + c.size ≡ c.from + (c.size + 0) = omega arith in
    subst (λ (n : ℕ). Chain all n others) e h.2
chain_rest all i c (d ∷ ds) others h =
    let s : d.from ≡ c.from + c.size = h.2.0 in
    let e : d.from + size_of_all (d ∷ ds) ≡ c.from + size_of_all (c ∷ d ∷ ds) = omega (arith, s) in
    subst (λ (n : ℕ). Chain all n others) e (chain_rest all (c.from + c.size) d ds others h.2)

size_append : (cs ds : List Child) → size_of_all (cs ++ ds) ≡ size_of_all cs + size_of_all ds
size_append [] ds = omega arith
size_append (c ∷ cs) ds = omega (arith, size_append cs ds)

one_by : (all : List Item) (c : Child) (v : Bool) → (v ≡ true → calls_in_groups all c.whole ≡ begun all c.from c.size)
    → calls_in_groups all (cond v c.whole (group c.from c.size (further c.tree nothing))) ≡ begun all c.from c.size
one_by all c true g = g refl
one_by all c false g = refl

runs_calls : (all : List Item) (i : ℕ) (rs : List (List Child)) (cs : List Child) → AreRuns (is_tied all) rs cs → Chain all i cs
    → calls_in_all_groups all (of_runs rs) ≡ begun all i (size_of_all cs)
runs_calls all i [] cs h k = sym (ap (λ ds. begun all i (size_of_all ds)) h)
runs_calls all i ([] ∷ rs) cs h k = absurd h.2
runs_calls all i ((c ∷ []) ∷ rs) cs h k =
    let l : Chain all i (c ∷ h.0) = subst (λ (ds : List Child). Chain all i ds) h.1 k in
    ap (λ bs. bs ++ calls_in_all_groups all (of_runs rs)) (one_by all c c.clean l.1)
    ∙ ap (λ bs. begun all c.from c.size ++ bs) (runs_calls all (c.from + c.size) rs h.0 h.3 l.2)
    ∙ sym (begun_append all c.from c.size (size_of_all h.0))
    ∙ ap (λ n. begun all n (size_of_all (c ∷ h.0))) l.0
    ∙ sym (ap (λ ds. begun all i (size_of_all ds)) h.1)
runs_calls all i ((c ∷ d ∷ ds) ∷ rs) cs h k =
    let l : Chain all i (c ∷ d ∷ ds ++ h.0) = subst (λ (es : List Child). Chain all i es) h.1 k in
    let x : ℕ = size_of_all (c ∷ d ∷ ds) in
    ap (λ bs. begun all c.from x ++ bs) (runs_calls all (c.from + x) rs h.0 h.3 (chain_rest all i c (d ∷ ds) h.0 l))
    ∙ sym (begun_append all c.from x (size_of_all h.0))
    ∙ ap (λ n. begun all n (x + size_of_all h.0)) l.0
    ∙ ap (begun all i) (sym (size_append (c ∷ d ∷ ds) h.0))
    ∙ sym (ap (λ es. begun all i (size_of_all es)) h.1)

pub children_size : (all : List Item) (n : ℕ) (ts : ItemTrees) → size_of_all (children all n ts) ≡ length (held_by_all ts)
children_size all n nothing = refl
children_size all n (further t ts) = omega (arith, children_size all (n + length (tree_items t)) ts, length-append (tree_items t) (held_by_all ts))

-- a node by its three parts, of which the first and the last begin no call
node_by : (all : List Item) (is : Bool) (n : ℕ) (opening inside closing after : List Item) (bs : List Begun)
    → drop n all ≡ (opening ++ (inside ++ closing)) ++ after
    → list_all is_page (own_by is opening inside closing) ≡ true → bs ≡ begun all (n + length opening) (length inside)
    → cond is [] bs ≡ begun all n (length (opening ++ (inside ++ closing)))
node_by all true n opening inside closing after bs e p g = sym (page_none all n (opening ++ (inside ++ closing)) after e p)
node_by all false n opening inside closing after bs e p g =
    let q = all_split opening closing p in
    let one : drop n all ≡ opening ++ ((inside ++ closing) ++ after) = e ∙ append_assoc opening (inside ++ closing) after in
    let two : drop (n + length opening) all ≡ inside ++ (closing ++ after) = behind all n opening ((inside ++ closing) ++ after) one
    ∙ append_assoc inside closing after in
    let three : drop (n + length opening + length inside) all ≡ closing ++ after = behind all (n + length opening) inside (closing ++ after) two in
    let first : begun all n (length opening) ≡ [] = page_none all n opening ((inside ++ closing) ++ after) one q.0 in
    let last : begun all (n + length opening + length inside) (length closing) ≡ [] =
    page_none all (n + length opening + length inside) closing after three q.1 in
    let i : ℕ = length inside in
    let c : ℕ = length closing in
    let m : length (opening ++ (inside ++ closing)) ≡ length opening + (i + c) =
    omega (arith, length-append opening (inside ++ closing), length-append inside closing) in
    g
    ∙ sym (append-nil (begun all (n + length opening) i))
    ∙ ap (λ xs. begun all (n + length opening) i ++ xs) (sym last)
    ∙ sym (begun_append all (n + length opening) i c)
    ∙ ap (λ xs. xs ++ begun all (n + length opening) (i + c)) (sym first)
    ∙ sym (begun_append all n (length opening) (i + c))
    ∙ ap (begun all n) (sym m)

mutual
  pub calls_at : (all : List Item) (n : ℕ) (t : ItemTree) (after : List Item) → drop n all ≡ tree_items t ++ after → is_clean all n t ≡ true
      → calls_in_groups all (grouped all n t) ≡ begun all n (length (tree_items t))
  calls_at all n (inner h o ts c) after e q =
      let cs : List Child = children all (n + length o) ts in
      let one : drop n all ≡ o ++ ((held_by_all ts ++ c) ++ after) = e ∙ append_assoc o (held_by_all ts ++ c) after in
      let two : drop (n + length o) all ≡ held_by_all ts ++ (c ++ after) = behind all n o ((held_by_all ts ++ c) ++ after) one
      ∙ append_assoc (held_by_all ts) c after in
      let g : calls_in_all_groups all (of_runs (runs (is_tied all) cs)) ≡ begun all (n + length o) (length (held_by_all ts)) =
      runs_calls all (n + length o) (runs (is_tied all) cs) cs (runs_are (is_tied all) cs) (chained all (n + length o) ts (c ++ after) two)
      ∙ ap (begun all (n + length o)) (children_size all (n + length o) ts) in
      node_by all (is_leaf h.kind) n o (held_by_all ts) c after (calls_in_all_groups all (of_runs (runs (is_tied all) cs))) e (own_page all n h o ts c q) g

  pub chained : (all : List Item) (n : ℕ) (ts : ItemTrees) (after : List Item) → drop n all ≡ held_by_all ts ++ after → Chain all n (children all n ts)
  chained all n nothing after e = tt
  chained all n (further t ts) after e =
      let one : drop n all ≡ tree_items t ++ (held_by_all ts ++ after) = e ∙ append_assoc (tree_items t) (held_by_all ts) after in (
        refl,
        λ q. calls_at all n t (held_by_all ts ++ after) one q,
        chained all (n + length (tree_items t)) ts after
            (behind all n (tree_items t) (held_by_all ts ++ after) one),
      )

pub all_calls : (t : ItemTree) → is_clean (tree_items t) 0 t ≡ true
    → calls_in_groups (tree_items t) (grouped (tree_items t) 0 t) ≡ begun (tree_items t) 0 (length (tree_items t))
all_calls t q = calls_at (tree_items t) 0 t [] (sym (append-nil (tree_items t))) q
