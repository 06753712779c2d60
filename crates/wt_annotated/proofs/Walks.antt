-- A walk over the tree makes the placed tree of the whole page.
use Rattle.std.proofs.Common.{◌≡◌, ℕ, ◌+◌, Bool, true, false, Option, None, List, [], ◌∷◌, ◌++◌, length, map, drop, refl, sym, ap, ◌∙◌, subst, cond, arith, length-append, append_assoc, append-nil}
use Rattle.std.specs.Prelude.{◌&&◌, ◌||◌}
use Rattle.std.specs.List.{list_all, list_any}
use Rattle.wt_tree.specs.Kinds.{is_leaf}
use Rattle.wt_tree.specs.Tree.{Tree, tree, more, trees}
use Rattle.wt_span.specs.Items.{Item}
use Rattle.wt_span.specs.Origins.{OuterCall}
use Rattle.wt_span.specs.Cuts.{call_of_item, is_free, place, text_between}
use Rattle.wt_span.specs.Runs.{put, runs, AreRuns}
use Rattle.wt_span.proofs.RunLaws.{runs_are}
use Rattle.wt_inline.specs.ItemTree.{ItemTree, inner, ItemTrees, nothing, further, tree_items, held_by_all}
use Rattle.wt_annotated.specs.WithoutCalls.{inside_by}
use Rattle.wt_annotated.specs.Clean.{is_page, is_body, own_by, is_clean}
use Rattle.wt_annotated.specs.Grouped.{group, Child, is_tied, size_of_all, nodes_of, of_run, of_runs, grouped, children}
use Rattle.wt_annotated.specs.GroupParts.{parts}
use Rattle.wt_annotated.specs.Annotated.{kept_label, group_label, all_unplaced, placed, all_placed}
use Rattle.wt_annotated.specs.Seams.{last_of, first_of, parted, text_from}
use Rattle.wt_annotated.specs.Walked.{clean_at, parts_from, Near, near_tied, near_nodes, group_at, near_run, near_runs, walked, near}
use Rattle.wt_annotated.proofs.Calls.{behind}
use Rattle.wt_annotated.proofs.Ends.{none_after}
use Rattle.wt_annotated.proofs.PartWalks.{parts_are}
use Rattle.wt_annotated.proofs.Places.{place_between}
use Rattle.wt_annotated.proofs.PlainView.{children_nodes}
use Rattle.wt_annotated.proofs.Seams.{before_call, after_call, free_is, before_more, after_first, text_is}
use Rattle.wt_annotated.proofs.Tiles.{Carried}

-- ---- clean nodes

and_four : (a b c d w : Bool) → ((a && (b && (c && d))) && w) ≡ (a && (b && (c && (d && w))))
and_four true true true d w = refl
and_four true true false d w = refl
and_four true false c d w = refl
and_four false b c d w = refl

clean_by : (a b c d e f g h w : Bool) → a ≡ e → b ≡ f → c ≡ g → d ≡ h → ((a && (b && (c && d))) && w) ≡ (e && (f && (g && (h && w))))
clean_by a b c d e f g h w p q r s = rw (p, q, r, s) (and_four e f g h w)

clean_is : (all : List Item) (n : ℕ) (t : ItemTree) (after : List Item) → drop n all ≡ tree_items t ++ after
    → clean_at (before_call all n) (after_call all (n + length (tree_items t))) t ≡ is_clean all n t
clean_is all n (inner h o ts c) after e =
    let i : List Item = held_by_all ts in
    let one : drop n all ≡ o ++ ((i ++ c) ++ after) = e ∙ append_assoc o (i ++ c) after in
    let two : drop (n + length o) all ≡ i ++ (c ++ after) = behind all n o ((i ++ c) ++ after) one ∙ append_assoc i c after in
    let three : drop (n + length o + length i) all ≡ c ++ after = behind all (n + length o) i (c ++ after) two in
    let end : n + length (o ++ (i ++ c)) ≡ n + length o + length i + length c = omega (arith, length-append o (i ++ c), length-append i c) in
    let p : Option ℕ = after_call all (n + length (o ++ (i ++ c))) in
    let a3 : after_call all (n + length o + length i) ≡ first_of c p = after_first all (n + length o + length i) c after three
    ∙ ap (λ m. first_of c (after_call all m)) (sym end) in
    let a2 : after_call all (n + length o) ≡ first_of i (first_of c p) = after_first all (n + length o) i (c ++ after) two ∙ ap (first_of i) a3 in
    let a1 : after_call all n ≡ first_of o (first_of i (first_of c p)) = after_first all n o ((i ++ c) ++ after) one ∙ ap (first_of o) a2 in
    let b2 : before_call all (n + length o) ≡ last_of (before_call all n) o = before_more all n o ((i ++ c) ++ after) one in
    let b3 : before_call all (n + length o + length i) ≡ last_of (last_of (before_call all n) o) i = before_more all (n + length o) i (c ++ after) two
    ∙ ap (λ q. last_of q i) b2 in
    let b4 : before_call all (n + length o + length i + length c) ≡ last_of (last_of (last_of (before_call all n) o) i) c =
    before_more all (n + length o + length i) c after three ∙ ap (λ q. last_of q c) b3 in
    let f1 : parted (before_call all n) (first_of o (first_of i (first_of c p))) ≡ is_free all n = ap (parted (before_call all n)) (sym a1)
    ∙ sym (free_is all n) in
    let f2 : parted (last_of (before_call all n) o) (first_of i (first_of c p)) ≡ is_free all (n + length o) =
    ap (λ q. parted q (first_of i (first_of c p))) (sym b2) ∙ ap (parted (before_call all (n + length o))) (sym a2) ∙ sym (free_is all (n + length o)) in
    let f3 : parted (last_of (last_of (before_call all n) o) i) (first_of c p) ≡ is_free all (n + length o + length i) =
    ap (λ q. parted q (first_of c p)) (sym b3) ∙ ap (parted (before_call all (n + length o + length i))) (sym a3)
    ∙ sym (free_is all (n + length o + length i)) in
    let f4 : parted (last_of (last_of (last_of (before_call all n) o) i) c) p ≡ is_free all (n + length o + length i + length c) =
    ap (λ q. parted q p) (sym b4) ∙ ap (λ m. parted (before_call all (n + length o + length i + length c)) (after_call all m)) end
    ∙ sym (free_is all (n + length o + length i + length c)) in
    clean_by (parted (before_call all n) (first_of o (first_of i (first_of c p)))) (parted (last_of (before_call all n) o) (first_of i (first_of c p)))
    (parted (last_of (last_of (before_call all n) o) i) (first_of c p)) (parted (last_of (last_of (last_of (before_call all n) o) i) c) p)
    (is_free all n) (is_free all (n + length o)) (is_free all (n + length o + length i)) (is_free all (n + length o + length i + length c))
    (list_all is_page (own_by (is_leaf h.kind) o i c) && (is_body h.kind || list_any is_page (o ++ (i ++ c)))) f1 f2 f3 f4

-- ---- runs

put_by : {A B : Type 0} (joins : B → B → Bool) (f : A → B) (x y : A) (ys : List A) (rs : List (List A)) (v : Bool)
    → cond v ((f x ∷ f y ∷ map f ys) ∷ map (map f) rs) ((f x ∷ []) ∷ (f y ∷ map f ys) ∷ map (map f) rs)
    ≡ map (map f) (cond v ((x ∷ y ∷ ys) ∷ rs) ((x ∷ []) ∷ (y ∷ ys) ∷ rs))
put_by joins f x y ys rs true = refl
put_by joins f x y ys rs false = refl

put_map : {A B : Type 0} (joins : B → B → Bool) (f : A → B) (x : A) (rs : List (List A))
    → put joins (f x) (map (map f) rs) ≡ map (map f) (put (λ y z. joins (f y) (f z)) x rs)
put_map joins f x [] = refl
put_map joins f x ([] ∷ rs) = refl
put_map joins f x ((y ∷ ys) ∷ rs) = put_by joins f x y ys rs (joins (f x) (f y))

runs_map : {A B : Type 0} (joins : B → B → Bool) (f : A → B) (xs : List A) → runs joins (map f xs) ≡ map (map f) (runs (λ x y. joins (f x) (f y)) xs)
runs_map joins f [] = refl
runs_map {A} {B} joins f (x ∷ xs) = ap (put joins (f x)) (runs_map joins f xs) ∙ put_map joins f x (runs (λ x y. joins (f x) (f y)) xs)

-- a child as it stands in the page
abbrev seen : List OuterCall → Carried → List Item → Child → Near
seen calls carried all c = record {
  tree = c.tree;
  before = before_call all c.from;
  after = after_call all (c.from + c.size);
  byte = place calls all c.from;
  free = is_free all c.from;
  clean = c.clean;
  whole = placed calls carried all c.whole;
}

seen_nodes : (calls : List OuterCall) (carried : Carried) (all : List Item) (cs : List Child) → near_nodes (map (seen calls carried all) cs) ≡ nodes_of cs
seen_nodes calls carried all [] = refl
seen_nodes calls carried all (c ∷ cs) = ap (further c.tree) (seen_nodes calls carried all cs)

-- they follow one another from this cut on, each as long as its items
abbrev Follow : ℕ → List Child → Type 0
Follow i [] = Unit {0}
Follow i (c ∷ cs) = (c.from ≡ i) × (c.size ≡ length (tree_items c.tree)) × Follow (c.from + c.size) cs

held_append : (cs ds : List Child) → held_by_all (nodes_of (cs ++ ds)) ≡ held_by_all (nodes_of cs) ++ held_by_all (nodes_of ds)
held_append [] ds = refl
held_append (c ∷ cs) ds = ap (λ xs. tree_items c.tree ++ xs) (held_append cs ds)
    ∙ sym (append_assoc (tree_items c.tree) (held_by_all (nodes_of cs)) (held_by_all (nodes_of ds)))

size_held : (i : ℕ) (cs : List Child) (ds : List Child) → Follow i (cs ++ ds) → size_of_all cs ≡ length (held_by_all (nodes_of cs))
size_held i [] ds f = refl
size_held i (c ∷ cs) ds f = omega (arith, f.1, size_held (c.from + c.size) cs ds f.2, length-append (tree_items c.tree) (held_by_all (nodes_of cs)))

follow_rest : (i : ℕ) (cs ds : List Child) → Follow i (cs ++ ds) → Follow (i + size_of_all cs) ds
follow_rest i [] ds f = let e : i ≡ i + 0 = omega arith in subst (λ (m : ℕ). Follow m ds) e f
follow_rest i (c ∷ cs) ds f =
    let e : c.from + c.size + size_of_all cs ≡ i + size_of_all (c ∷ cs) = omega (arith, f.0) in
    subst (λ (m : ℕ). Follow m ds) e (follow_rest (c.from + c.size) cs ds f.2)

-- a group by what stands in the page
group_is : (calls : List OuterCall) (carried : Carried) (all : List Item) (n k : ℕ) (ts us : ItemTrees) (after : List Item)
    → drop n all ≡ held_by_all ts ++ after → k ≡ length (held_by_all ts) → us ≡ ts
    → group_at calls carried (before_call all n) (place calls all n) us ≡ placed calls carried all (group n k ts)
group_is calls carried all n k ts us after e l m =
    ap (group_at calls carried (before_call all n) (place calls all n)) m
    ∙ ap (λ bs. tree (group_label (place calls all n) bs (carried (parts_from (before_call all n) None (held_by_all ts)))) (all_unplaced ts))
    (sym (text_is calls all n (held_by_all ts) after e) ∙ ap (text_between calls all n) (sym l))
    ∙ ap (λ ps. tree (group_label (place calls all n) (text_between calls all n k) (carried ps)) (all_unplaced ts))
    (sym (parts_are calls all n (held_by_all ts) after e) ∙ ap (parts calls all n) (sym l))

one_is : (calls : List OuterCall) (carried : Carried) (all : List Item) (c : Child) (after : List Item) (v : Bool)
    → drop c.from all ≡ tree_items c.tree ++ after
    → c.size ≡ length (tree_items c.tree)
    → cond v (placed calls carried all c.whole) (group_at calls carried (before_call all c.from) (place calls all c.from) (further c.tree nothing))
    ≡ placed calls carried all (cond v c.whole (group c.from c.size (further c.tree nothing)))
one_is calls carried all c after true e l = refl
one_is calls carried all c after false e l =
    let m : tree_items c.tree ++ [] ≡ tree_items c.tree = append-nil (tree_items c.tree) in
    group_is calls carried all c.from c.size (further c.tree nothing) (further c.tree nothing) after (e ∙ ap (λ xs. xs ++ after) (sym m))
    (l ∙ ap length (sym m)) refl

runs_placed : (calls : List OuterCall) (carried : Carried) (all : List Item) (i : ℕ) (rs : List (List Child)) (cs : List Child) (after : List Item)
    → AreRuns (is_tied all) rs cs → Follow i cs → drop i all ≡ held_by_all (nodes_of cs) ++ after
    → trees (map (near_run calls carried) (map (map (seen calls carried all)) rs)) ≡ all_placed calls carried all (of_runs rs)
runs_placed calls carried all i [] cs after h f e = refl
runs_placed calls carried all i ([] ∷ rs) cs after h f e = absurd h.2
runs_placed calls carried all i ((c ∷ []) ∷ rs) cs after h f e =
    let g : Follow i (c ∷ h.0) = subst (λ (ds : List Child). Follow i ds) h.1 f in
    let d : drop i all ≡ tree_items c.tree ++ (held_by_all (nodes_of h.0) ++ after) = e ∙ ap (λ ds. held_by_all (nodes_of ds) ++ after) h.1
    ∙ append_assoc (tree_items c.tree) (held_by_all (nodes_of h.0)) after in
    let here : drop c.from all ≡ tree_items c.tree ++ (held_by_all (nodes_of h.0) ++ after) = ap (λ m. drop m all) g.0 ∙ d in
    let there : drop (c.from + c.size) all ≡ held_by_all (nodes_of h.0) ++ after = ap (λ m. drop (c.from + m) all) g.1
    ∙ behind all c.from (tree_items c.tree) (held_by_all (nodes_of h.0) ++ after) here in
    ap (λ u. more u (trees (map (near_run calls carried) (map (map (seen calls carried all)) rs))))
    (one_is calls carried all c (held_by_all (nodes_of h.0) ++ after) c.clean here g.1)
    ∙ ap (more (placed calls carried all (of_run (c ∷ [])))) (runs_placed calls carried all (c.from + c.size) rs h.0 after h.3 g.2 there)
runs_placed calls carried all i ((c ∷ d ∷ ds) ∷ rs) cs after h f e =
    let r : List Child = c ∷ d ∷ ds in
    let g : Follow i (r ++ h.0) = subst (λ (es : List Child). Follow i es) h.1 f in
    let k : size_of_all r ≡ length (held_by_all (nodes_of r)) = size_held i r h.0 g in
    let at : drop i all ≡ held_by_all (nodes_of r) ++ (held_by_all (nodes_of h.0) ++ after) =
    e ∙ ap (λ es. held_by_all (nodes_of es) ++ after) h.1 ∙ ap (λ xs. xs ++ after) (held_append r h.0)
    ∙ append_assoc (held_by_all (nodes_of r)) (held_by_all (nodes_of h.0)) after in
    let here : drop c.from all ≡ held_by_all (nodes_of r) ++ (held_by_all (nodes_of h.0) ++ after) = ap (λ m. drop m all) g.0 ∙ at in
    let there : drop (i + size_of_all r) all ≡ held_by_all (nodes_of h.0) ++ after = ap (λ m. drop (i + m) all) k
    ∙ behind all i (held_by_all (nodes_of r)) (held_by_all (nodes_of h.0) ++ after) at in
    ap (λ u. more u (trees (map (near_run calls carried) (map (map (seen calls carried all)) rs))))
    (group_is calls carried all c.from (size_of_all r) (nodes_of r) (near_nodes (map (seen calls carried all) r)) (held_by_all (nodes_of h.0) ++ after) here
    k (seen_nodes calls carried all r))
    ∙ ap (more (placed calls carried all (of_run r))) (runs_placed calls carried all (i + size_of_all r) rs h.0 after h.3 (follow_rest i r h.0 g) there)

children_follow : (all : List Item) (n : ℕ) (ts : ItemTrees) → Follow n (children all n ts)
children_follow all n nothing = tt
children_follow all n (further t ts) = (refl, refl, children_follow all (n + length (tree_items t)) ts)

-- ---- trees

-- a child between items of these calls
abbrev near_one : List OuterCall → Carried → Option ℕ → ℕ → Option ℕ → ItemTree → Near
near_one calls carried o at p t =
    record {
      tree = t;
      before = o;
      after = p;
      byte = at;
      free = parted o (first_of (tree_items t) p);
      clean = clean_at o p t;
      whole =
          walked calls carried o at p t;
    }

near_is : (calls : List OuterCall) (carried : Carried) (all : List Item) (n : ℕ) (t : ItemTree)
    → parted (before_call all n) (first_of (tree_items t) (after_call all (n + length (tree_items t)))) ≡ is_free all n
    → clean_at (before_call all n) (after_call all (n + length (tree_items t))) t ≡ is_clean all n t
    → walked calls carried (before_call all n) (place calls all n) (after_call all (n + length (tree_items t))) t ≡ placed calls carried all (grouped all n t)
    → near_one calls carried (before_call all n) (place calls all n) (after_call all (n + length (tree_items t))) t
    ≡ seen calls carried all (record { from = n; size = length (tree_items t); tree = t; clean = is_clean all n t; whole = grouped all n t })
near_is calls carried all n t f c w =
    let o : Option ℕ = before_call all n in
    let p : Option ℕ = after_call all (n + length (tree_items t)) in
    let at : ℕ = place calls all n in
    ap (λ (v : Bool). record { tree = t; before = o; after = p; byte = at; free = v; clean = clean_at o p t; whole = walked calls carried o at p t }) f
    ∙ ap (λ (v : Bool). record { tree = t; before = o; after = p; byte = at; free = is_free all n; clean = v; whole = walked calls carried o at p t }) c
    ∙ ap (λ (u : Tree). record { tree = t; before = o; after = p; byte = at; free = is_free all n; clean = is_clean all n t; whole = u }) w

none_is : (all : List Item) → after_call all (length all) ≡ None
none_is all = ap call_of_item (none_after all)

mutual
  pub walk : (calls : List OuterCall) (carried : Carried) (all : List Item) (n : ℕ) (t : ItemTree) (after : List Item) → drop n all ≡ tree_items t ++ after
      → walked calls carried (before_call all n) (place calls all n) (after_call all (n + length (tree_items t))) t ≡ placed calls carried all (grouped all n t)
  walk calls carried all n (inner h o ts c) after e =
      let is : Bool = is_leaf h.kind in
      let i : List Item = held_by_all ts in
      let b : Option ℕ = before_call all n in
      let one : drop n all ≡ o ++ ((i ++ c) ++ after) = e ∙ append_assoc o (i ++ c) after in
      let two : drop (n + length o) all ≡ i ++ (c ++ after) = behind all n o ((i ++ c) ++ after) one ∙ append_assoc i c after in
      let three : drop (n + length o + length i) all ≡ c ++ after = behind all (n + length o) i (c ++ after) two in
      let size : length (o ++ (i ++ c)) ≡ length o + length i + length c = omega (arith, length-append o (i ++ c), length-append i c) in
      let end : n + length o + length i + length c ≡ n + length (o ++ (i ++ c)) = omega (arith, size) in
      let b2 : last_of b o ≡ before_call all (n + length o) = sym (before_more all n o ((i ++ c) ++ after) one) in
      let b3 : last_of (last_of b o) i ≡ before_call all (n + length o + length i) = ap (λ q. last_of q i) b2
      ∙ sym (before_more all (n + length o) i (c ++ after) two) in
      let a3 : first_of c (after_call all (n + length (o ++ (i ++ c)))) ≡ after_call all (n + length o + length i) =
      ap (λ m. first_of c (after_call all m)) (sym end) ∙ sym (after_first all (n + length o + length i) c after three) in
      let whole : text_from calls b (o ++ (i ++ c)) ≡ text_between calls all n (length o + length i + length c) =
      sym (text_is calls all n (o ++ (i ++ c)) after e) ∙ ap (text_between calls all n) size in
      let front : text_from calls b o ≡ text_between calls all n (length o) = sym (text_is calls all n o ((i ++ c) ++ after) one) in
      let back : text_from calls (last_of (last_of b o) i) c ≡ text_between calls all (n + length o + length i) (length c) = ap (λ q. text_from calls q c) b3
      ∙ sym (text_is calls all (n + length o + length i) c after three) in
      let at2 : place calls all n + length (text_from calls b o) ≡ place calls all (n + length o) = ap (λ bs. place calls all n + length bs) front
      ∙ sym (place_between calls all (length o) n) in
      let cs : List Child = children all (n + length o) ts in
      let inside : trees (near_runs calls carried
      (near calls carried (last_of b o) (place calls all n + length (text_from calls b o)) (first_of c (after_call all (n + length (o ++ (i ++ c)))))
      ts)) ≡ all_placed calls carried all (of_runs (runs (is_tied all) cs)) =
      ap (λ q. trees (near_runs calls carried
      (near calls carried q (place calls all n + length (text_from calls b o)) (first_of c (after_call all (n + length (o ++ (i ++ c))))) ts))) b2
      ∙ ap (λ m. trees (near_runs calls carried
      (near calls carried (before_call all (n + length o)) m (first_of c (after_call all (n + length (o ++ (i ++ c))))) ts))) at2
      ∙ ap (λ q. trees (near_runs calls carried (near calls carried (before_call all (n + length o)) (place calls all (n + length o)) q ts))) a3
      ∙ ap (λ ns. trees (near_runs calls carried ns)) (nears calls carried all (n + length o) ts (c ++ after) two)
      ∙ ap (λ rs. trees (map (near_run calls carried) rs)) (runs_map near_tied (seen calls carried all) cs)
      ∙ runs_placed calls carried all (n + length o) (runs (is_tied all) cs) cs (c ++ after) (runs_are (is_tied all) cs)
      (children_follow all (n + length o) ts) (two ∙ ap (λ us. held_by_all us ++ (c ++ after)) (sym (children_nodes all (n + length o) ts))) in
      ap (λ us. tree (kept_label is h (place calls all n) (text_from calls b (o ++ (i ++ c))) (text_from calls b o)
      (text_from calls (last_of (last_of b o) i) c)) (inside_by is us)) inside
      ∙ ap (λ x. tree (kept_label is h (place calls all n) x (text_from calls b o) (text_from calls (last_of (last_of b o) i) c))
      (inside_by is (all_placed calls carried all (of_runs (runs (is_tied all) cs))))) whole
      ∙ ap (λ x. tree (kept_label is h (place calls all n) (text_between calls all n (length o + length i + length c)) x
      (text_from calls (last_of (last_of b o) i) c)) (inside_by is (all_placed calls carried all (of_runs (runs (is_tied all) cs))))) front
      ∙ ap (λ x. tree (kept_label is h (place calls all n) (text_between calls all n (length o + length i + length c)) (text_between calls all n (length o))
      x) (inside_by is (all_placed calls carried all (of_runs (runs (is_tied all) cs))))) back

  nears : (calls : List OuterCall) (carried : Carried) (all : List Item) (n : ℕ) (ts : ItemTrees) (after : List Item) → drop n all ≡ held_by_all ts ++ after
      → near calls carried (before_call all n) (place calls all n) (after_call all (n + length (held_by_all ts))) ts
      ≡ map (seen calls carried all) (children all n ts)
  nears calls carried all n nothing after e = refl
  nears calls carried all n (further t ts) after e =
      let one : drop n all ≡ tree_items t ++ (held_by_all ts ++ after) = e ∙ append_assoc (tree_items t) (held_by_all ts) after in
      let two : drop (n + length (tree_items t)) all ≡ held_by_all ts ++ after = behind all n (tree_items t) (held_by_all ts ++ after) one in
      let end : n + length (tree_items t) + length (held_by_all ts) ≡ n + length (tree_items t ++ held_by_all ts) =
      omega (arith, length-append (tree_items t) (held_by_all ts)) in
      let a2 : first_of (held_by_all ts) (after_call all (n + length (tree_items t ++ held_by_all ts))) ≡ after_call all (n + length (tree_items t)) =
      ap (λ m. first_of (held_by_all ts) (after_call all m)) (sym end) ∙ sym (after_first all (n + length (tree_items t)) (held_by_all ts) after two) in
      let free : parted (before_call all n) (first_of (tree_items t) (after_call all (n + length (tree_items t)))) ≡ is_free all n =
      ap (parted (before_call all n)) (sym (after_first all n (tree_items t) (held_by_all ts ++ after) one)) ∙ sym (free_is all n) in
      let b2 : last_of (before_call all n) (tree_items t) ≡ before_call all (n + length (tree_items t)) =
      sym (before_more all n (tree_items t) (held_by_all ts ++ after) one) in
      let at2 : place calls all n + length (text_from calls (before_call all n) (tree_items t)) ≡ place calls all (n + length (tree_items t)) =
      ap (λ bs. place calls all n + length bs) (sym (text_is calls all n (tree_items t) (held_by_all ts ++ after) one))
      ∙ sym (place_between calls all (length (tree_items t)) n) in
      let p : Option ℕ = after_call all (n + length (tree_items t ++ held_by_all ts)) in
      ap (λ q. near_one calls carried (before_call all n) (place calls all n) q t
      ∷ near calls carried (last_of (before_call all n) (tree_items t))
      (place calls all n + length (text_from calls (before_call all n) (tree_items t))) p ts) a2
      ∙ ap (λ q. near_one calls carried (before_call all n) (place calls all n) (after_call all (n + length (tree_items t))) t
      ∷ near calls carried q (place calls all n + length (text_from calls (before_call all n) (tree_items t))) p ts) b2
      ∙ ap (λ m. near_one calls carried (before_call all n) (place calls all n) (after_call all (n + length (tree_items t))) t
      ∷ near calls carried (before_call all (n + length (tree_items t))) m p ts) at2
      ∙ ap (λ m. near_one calls carried (before_call all n) (place calls all n) (after_call all (n + length (tree_items t))) t
      ∷ near calls carried (before_call all (n + length (tree_items t))) (place calls all (n + length (tree_items t))) (after_call all m) ts) (sym end)
      ∙ ap (λ ns. near_one calls carried (before_call all n) (place calls all n) (after_call all (n + length (tree_items t))) t ∷ ns)
      (nears calls carried all (n + length (tree_items t)) ts after two)
      ∙ ap (λ c. c ∷ map (seen calls carried all) (children all (n + length (tree_items t)) ts))
      (near_is calls carried all n t free (clean_is all n t (held_by_all ts ++ after) one) (walk calls carried all n t (held_by_all ts ++ after) one))

pub walk_all : (calls : List OuterCall) (carried : Carried) (t : ItemTree)
    → walked calls carried None 0 None t ≡ placed calls carried (tree_items t) (grouped (tree_items t) 0 t)
walk_all calls carried t =
    let end : after_call (tree_items t) (0 + length (tree_items t)) ≡ None = let z : 0 + length (tree_items t)
    ≡ length (tree_items t) = omega arith in ap (after_call (tree_items t)) z
    ∙ none_is (tree_items t) in
    ap (λ p. walked calls carried None 0 p t) (sym end) ∙ walk calls carried (tree_items t) 0 t [] (sym (append-nil (tree_items t)))
