-- A walk over the same trees makes the same nodes and groups, but for places, from whatever byte it begins, and wherever the calls are.
use Rattle.std.proofs.Common.{◌≡◌, ℕ, ◌+◌, Bool, true, false, Option, None, Some, List, [], ◌∷◌, ◌++◌, length, map, refl, sym, ap, ap₂, ◌∙◌, cond}
use Rattle.wt_tree.specs.Kinds.{is_leaf}
use Rattle.wt_tree.specs.Tree.{Tree, tree, Trees, none, more, trees}
use Rattle.wt_span.specs.Items.{Item, source, call_of}
use Rattle.wt_span.specs.Origins.{OuterCall}
use Rattle.wt_span.specs.Cuts.{text_by}
use Rattle.wt_span.specs.Runs.{put, runs}
use Rattle.wt_inline.specs.ItemTree.{Head, ItemTree, inner, ItemTrees, nothing, further, tree_items, held_by_all}
use Rattle.wt_annotated.specs.Annotated.{kept_label, group_label, all_unplaced}
use Rattle.wt_annotated.specs.GroupData.{group_data}
use Rattle.wt_annotated.specs.Seams.{last_of, first_of, parted, text_from}
use Rattle.wt_annotated.specs.Walked.{clean_at, parts_from, Near, near_tied, near_nodes, group_at, near_run, near_runs, walked, near}
use Rattle.wt_annotated.specs.WithoutCalls.{inside_by}
use Rattle.wt_part_laws.specs.Placeless.{placeless_label, placeless, all_placeless}
use Rattle.wt_part_laws.specs.Rounded.{HaveSameData}

-- ---- what is on the page

by_same : (calls cs : List OuterCall) → HaveSameData calls cs → (o : Option ℕ) (bs : List ℕ) → text_by calls o bs ≡ text_by cs o bs
by_same calls cs h None bs = refl
by_same calls cs h (Some k) bs = h.sources k

step_by : (v : Bool) (xs ys : List ℕ) → xs ≡ ys → cond v xs [] ≡ cond v ys []
step_by true xs ys e = e
step_by false xs ys e = refl

text_same : (calls cs : List OuterCall) → HaveSameData calls cs → (o : Option ℕ) (xs : List Item) → text_from calls o xs ≡ text_from cs o xs
text_same calls cs h o [] = refl
text_same calls cs h o (x ∷ xs) =
    ap₂ (λ cs2 bs. cs2 ++ bs)
    (step_by (parted o (call_of x)) (text_by calls (call_of x) (source x)) (text_by cs (call_of x) (source x)) (by_same calls cs h (call_of x) (source x)))
    (text_same calls cs h (call_of x) xs)

-- ---- labels

pub label_same : (is : Bool) (k : Head) (at b : ℕ) (x y z x2 y2 z2 : List ℕ) → x ≡ x2 → y ≡ y2 → z ≡ z2
    → placeless_label (kept_label is k at x y z) ≡ placeless_label (kept_label is k b x2 y2 z2)
label_same is k at b x y z x2 y2 z2 e f g =
    ap₂ (λ u v. placeless_label (kept_label is k at u v z)) e f ∙ same_at ∙ ap (λ v. placeless_label (kept_label is k b x2 y2 v)) g
  where
    same_at : placeless_label (kept_label is k at x2 y2 z) ≡ placeless_label (kept_label is k b x2 y2 z)
    same_at = refl

pub inside_same : (is : Bool) (us vs : Trees) → all_placeless us ≡ all_placeless vs → all_placeless (inside_by is us) ≡ all_placeless (inside_by is vs)
inside_same true us vs e = refl
inside_same false us vs e = e

-- ---- nodes that follow one another, without places

mutual
  pub gone_twice : (t : Tree) → placeless (placeless t) ≡ placeless t
  gone_twice (tree l ts) = ap (tree (placeless_label l)) (all_gone_twice ts)

  all_gone_twice : (ts : Trees) → all_placeless (all_placeless ts) ≡ all_placeless ts
  all_gone_twice none = refl
  all_gone_twice (more t ts) = ap₂ more (gone_twice t) (all_gone_twice ts)

abbrev bare : Near → Near
bare c = record { tree = c.tree; before = c.before; after = c.after; byte = 0; free = c.free; clean = c.clean; whole = placeless c.whole }

put_by : (c d : Near) (ds : List Near) (rs : List (List Near)) (v : Bool)
    → cond v ((bare c ∷ bare d ∷ map bare ds) ∷ map (map bare) rs) ((bare c ∷ []) ∷ (bare d ∷ map bare ds) ∷ map (map bare) rs)
    ≡ map (map bare) (cond v ((c ∷ d ∷ ds) ∷ rs) ((c ∷ []) ∷ (d ∷ ds) ∷ rs))
put_by c d ds rs true = refl
put_by c d ds rs false = refl

put_bare : (c : Near) (rs : List (List Near)) → put near_tied (bare c) (map (map bare) rs) ≡ map (map bare) (put near_tied c rs)
put_bare c [] = refl
put_bare c ([] ∷ rs) = refl
put_bare c ((d ∷ ds) ∷ rs) = put_by c d ds rs (near_tied c d)

runs_bare : (cs : List Near) → runs near_tied (map bare cs) ≡ map (map bare) (runs near_tied cs)
runs_bare [] = refl
runs_bare (c ∷ cs) = ap (put near_tied (bare c)) (runs_bare cs) ∙ put_bare c (runs near_tied cs)

nodes_bare : (cs : List Near) → near_nodes (map bare cs) ≡ near_nodes cs
nodes_bare [] = refl
nodes_bare (c ∷ cs) = ap (further c.tree) (nodes_bare cs)

-- ---- groups

group_same : (calls cs : List OuterCall) → HaveSameData calls cs → (o : Option ℕ) (at b : ℕ) (ts : ItemTrees)
    → placeless (group_at calls (group_data calls) o at ts) ≡ placeless (group_at cs (group_data cs) o b ts)
group_same calls cs h o at b ts =
    ap₂ (λ bs mw. placeless (tree (group_label at bs mw) (all_unplaced ts))) (text_same calls cs h o (held_by_all ts))
    (h.carried (parts_from o None (held_by_all ts)))

one_same : (calls cs : List OuterCall) → HaveSameData calls cs → (c : Near) (v : Bool)
    → placeless (cond v (placeless c.whole) (group_at calls (group_data calls) c.before 0 (further c.tree nothing)))
    ≡ placeless (cond v c.whole (group_at cs (group_data cs) c.before c.byte (further c.tree nothing)))
one_same calls cs h c true = gone_twice c.whole
one_same calls cs h c false = group_same calls cs h c.before 0 c.byte (further c.tree nothing)

run_same : (calls cs : List OuterCall) → HaveSameData calls cs → (r : List Near)
    → placeless (near_run calls (group_data calls) (map bare r)) ≡ placeless (near_run cs (group_data cs) r)
run_same calls cs h [] = group_same calls cs h None 0 0 nothing
run_same calls cs h (c ∷ []) = one_same calls cs h c c.clean
run_same calls cs h (c ∷ d ∷ ds) =
    ap (λ ts. placeless (group_at calls (group_data calls) c.before 0 ts)) (nodes_bare (c ∷ d ∷ ds))
    ∙ group_same calls cs h c.before 0 c.byte (near_nodes (c ∷ d ∷ ds))

all_runs_same : (calls cs : List OuterCall) → HaveSameData calls cs → (rs : List (List Near))
    → all_placeless (trees (map (near_run calls (group_data calls)) (map (map bare) rs))) ≡ all_placeless (trees (map (near_run cs (group_data cs)) rs))
all_runs_same calls cs h [] = refl
all_runs_same calls cs h (r ∷ rs) = ap₂ more (run_same calls cs h r) (all_runs_same calls cs h rs)

bare_same : (calls cs : List OuterCall) → HaveSameData calls cs → (ns : List Near)
    → all_placeless (trees (near_runs calls (group_data calls) (map bare ns))) ≡ all_placeless (trees (near_runs cs (group_data cs) ns))
bare_same calls cs h ns =
    ap (λ rs. all_placeless (trees (map (near_run calls (group_data calls)) rs))) (runs_bare ns) ∙ all_runs_same calls cs h (runs near_tied ns)

pub same_data : (calls : List OuterCall) → HaveSameData calls calls
same_data calls = record { sources = λ k. refl; carried = λ ps. refl }

runs_by : (calls cs : List OuterCall) → HaveSameData calls cs → (ms ns : List Near) → map bare ms ≡ map bare ns
    → all_placeless (trees (near_runs calls (group_data calls) ms)) ≡ all_placeless (trees (near_runs cs (group_data cs) ns))
runs_by calls cs h ms ns e =
    sym (bare_same calls calls (same_data calls) ms)
    ∙ ap (λ ks. all_placeless (trees (near_runs calls (group_data calls) ks))) e
    ∙ bare_same calls cs h ns

-- ---- the walk

mutual
  pub walk_same : (calls cs : List OuterCall) → HaveSameData calls cs → (o : Option ℕ) (at b : ℕ) (p : Option ℕ) (t : ItemTree)
      → placeless (walked calls (group_data calls) o at p t) ≡ placeless (walked cs (group_data cs) o b p t)
  walk_same calls cs h o at b p (inner k q ts c) =
      let all : List Item = q ++ (held_by_all ts ++ c) in
      let n : Option ℕ = last_of (last_of o q) (held_by_all ts) in
      let at2 : ℕ = at + length (text_from calls o q) in
      let b2 : ℕ = b + length (text_from cs o q) in
      ap₂ (λ l us. tree l us)
      (label_same (is_leaf k.kind) k at b (text_from calls o all) (text_from calls o q) (text_from calls n c) (text_from cs o all) (text_from cs o q)
      (text_from cs n c) (text_same calls cs h o all) (text_same calls cs h o q) (text_same calls cs h n c))
      (inside_same (is_leaf k.kind) (trees (near_runs calls (group_data calls) (near calls (group_data calls) (last_of o q) at2 (first_of c p) ts)))
      (trees (near_runs cs (group_data cs) (near cs (group_data cs) (last_of o q) b2 (first_of c p) ts)))
      (runs_by calls cs h (near calls (group_data calls) (last_of o q) at2 (first_of c p) ts) (near cs (group_data cs) (last_of o q) b2 (first_of c p) ts)
      (nears_same calls cs h (last_of o q) at2 b2 (first_of c p) ts)))

  nears_same : (calls cs : List OuterCall) → HaveSameData calls cs → (o : Option ℕ) (at b : ℕ) (p : Option ℕ) (ts : ItemTrees)
      → map bare (near calls (group_data calls) o at p ts) ≡ map bare (near cs (group_data cs) o b p ts)
  nears_same calls cs h o at b p nothing = refl
  nears_same calls cs h o at b p (further t ts) =
      let q : Option ℕ = first_of (held_by_all ts) p in
      ap₂ (λ u us. record { tree = t; before = o; after = q; byte = 0; free = parted o (first_of (tree_items t) q); clean = clean_at o q t; whole = u } ∷ us)
      (walk_same calls cs h o at b q t)
      (nears_same calls cs h (last_of o (tree_items t)) (at + length (text_from calls o (tree_items t))) (b + length (text_from cs o (tree_items t))) p ts)

-- and so are the nodes and groups among siblings
pub siblings_same : (calls cs : List OuterCall) → HaveSameData calls cs → (o : Option ℕ) (at b : ℕ) (p : Option ℕ) (ts : ItemTrees)
    → all_placeless (trees (near_runs calls (group_data calls) (near calls (group_data calls) o at p ts)))
    ≡ all_placeless (trees (near_runs cs (group_data cs) (near cs (group_data cs) o b p ts)))
siblings_same calls cs h o at b p ts =
    runs_by calls cs h (near calls (group_data calls) o at p ts) (near cs (group_data cs) o b p ts) (nears_same calls cs h o at b p ts)
