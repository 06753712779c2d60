-- What is behind the last item of some nodes is nothing to their walk, where the cut between is free.
use Rattle.std.proofs.Common.{◌≡◌, ℕ, ◌+◌, Bool, true, false, Option, None, List, [], ◌∷◌, ◌++◌, length, map, refl, sym, ap, ap₂, ◌∙◌, cond}
use Rattle.std.specs.Prelude.{◌&&◌, ◌||◌}
use Rattle.std.specs.List.{list_all, list_any}
use Rattle.wt_tree.specs.Kinds.{is_leaf}
use Rattle.wt_tree.specs.Tree.{Tree, tree, Trees, trees}
use Rattle.wt_span.specs.Items.{Item}
use Rattle.wt_span.specs.Origins.{OuterCall}
use Rattle.wt_span.specs.Runs.{put, runs}
use Rattle.wt_inline.specs.ItemTree.{Head, ItemTree, inner, ItemTrees, nothing, further, tree_items, held_by_all}
use Rattle.wt_annotated.specs.Annotated.{kept_label}
use Rattle.wt_annotated.specs.Clean.{is_page, is_body, own_by}
use Rattle.wt_annotated.specs.GroupData.{group_data}
use Rattle.wt_annotated.specs.Seams.{last_of, first_of, parted, text_from}
use Rattle.wt_annotated.specs.Walked.{clean_at, Near, near_tied, near_nodes, group_at, near_run, near_runs, walked, near}
use Rattle.wt_annotated.specs.WithoutCalls.{inside_by}
use Rattle.wt_annotated.proofs.Seams.{first_append, last_append}

-- ---- cuts

-- behind the last item of these, which follow one of the first call, both cuts are free
pub record BothFree (o p q : Option ℕ) (xs : List Item) : Type 0 where
  pub first : parted (last_of o xs) p ≡ true
  pub second : parted (last_of o xs) q ≡ true

cut_same : (o p q : Option ℕ) (xs : List Item) → BothFree o p q xs → parted o (first_of xs p) ≡ parted o (first_of xs q)
cut_same o p q [] h = h.first ∙ sym h.second
cut_same o p q (x ∷ xs) h = refl

free_behind : (o p q : Option ℕ) (xs ys : List Item) → BothFree o p q (xs ++ ys) → BothFree (last_of o xs) p q ys
free_behind o p q xs ys h = record {
  first = ap (λ (a : Option ℕ). parted a p) (sym (last_append o xs ys)) ∙ h.first;
  second = ap (λ (a : Option ℕ). parted a q) (sym (last_append o xs ys)) ∙ h.second;
}

two_same : (o p q : Option ℕ) (xs ys : List Item) → BothFree o p q (xs ++ ys) → parted o (first_of xs (first_of ys p)) ≡ parted o (first_of xs (first_of ys q))
two_same o p q xs ys h =
    ap (parted o) (sym (first_append xs ys p)) ∙ cut_same o p q (xs ++ ys) h ∙ ap (parted o) (first_append xs ys q)

three_same : (o p q : Option ℕ) (xs ys zs : List Item) → BothFree o p q (xs ++ (ys ++ zs))
    → parted o (first_of xs (first_of ys (first_of zs p))) ≡ parted o (first_of xs (first_of ys (first_of zs q)))
three_same o p q xs ys zs h =
    ap (λ (a : Option ℕ). parted o (first_of xs a)) (sym (first_append ys zs p))
    ∙ two_same o p q xs (ys ++ zs) h
    ∙ ap (λ (a : Option ℕ). parted o (first_of xs a)) (first_append ys zs q)

four : (a b c d e f g h : Bool) → a ≡ e → b ≡ f → c ≡ g → d ≡ h → (a && (b && (c && d))) ≡ (e && (f && (g && h)))
four a b c d e f g h i j k l = ap₂ (λ (x y : Bool). x && y) i (ap₂ (λ (x y : Bool). x && y) j (ap₂ (λ (x y : Bool). x && y) k l))

-- ---- clean nodes

pub clean_same : (o p q : Option ℕ) (t : ItemTree) → BothFree o p q (tree_items t) → clean_at o p t ≡ clean_at o q t
clean_same o p q (inner k x ts c) h =
    let i : List Item = held_by_all ts in
    let behind : BothFree (last_of o x) p q (i ++ c) = free_behind o p q x (i ++ c) h in
    let last : BothFree (last_of (last_of o x) i) p q c = free_behind (last_of o x) p q i c behind in
    let end : BothFree (last_of (last_of (last_of o x) i) c) p q [] =
    record { first = last.first; second = last.second } in
    ap (λ (v : Bool). v && (list_all is_page (own_by (is_leaf k.kind) x i c) && (is_body k.kind || list_any is_page (x ++ (i ++ c)))))
    (four (parted o (first_of x (first_of i (first_of c p)))) (parted (last_of o x) (first_of i (first_of c p))) (parted (last_of (last_of o x) i) (first_of c p))
    (parted (last_of (last_of (last_of o x) i) c) p) (parted o (first_of x (first_of i (first_of c q)))) (parted (last_of o x) (first_of i (first_of c q)))
    (parted (last_of (last_of o x) i) (first_of c q)) (parted (last_of (last_of (last_of o x) i) c) q)
    (three_same o p q x i c h) (two_same (last_of o x) p q i c behind) (cut_same (last_of (last_of o x) i) p q c last) (end.first ∙ sym end.second))

clean_by : (o p q : Option ℕ) (t : ItemTree) (xs : List Item) → BothFree (last_of o (tree_items t)) p q xs → clean_at o (first_of xs p) t ≡ clean_at o (first_of xs q) t
clean_by o p q t [] h = clean_same o p q t (record { first = h.first; second = h.second })
clean_by o p q t (x ∷ xs) h = refl

-- ---- what follows a node isn't looked at again

abbrev apart : Near → Near
apart c = record { tree = c.tree; before = c.before; after = None; byte = c.byte; free = c.free; clean = c.clean; whole = c.whole }

put_by : (c d : Near) (ds : List Near) (rs : List (List Near)) (v : Bool)
    → cond v ((apart c ∷ apart d ∷ map apart ds) ∷ map (map apart) rs) ((apart c ∷ []) ∷ (apart d ∷ map apart ds) ∷ map (map apart) rs)
    ≡ map (map apart) (cond v ((c ∷ d ∷ ds) ∷ rs) ((c ∷ []) ∷ (d ∷ ds) ∷ rs))
put_by c d ds rs true = refl
put_by c d ds rs false = refl

put_apart : (c : Near) (rs : List (List Near)) → put near_tied (apart c) (map (map apart) rs) ≡ map (map apart) (put near_tied c rs)
put_apart c [] = refl
put_apart c ([] ∷ rs) = refl
put_apart c ((d ∷ ds) ∷ rs) = put_by c d ds rs (near_tied c d)

runs_apart : (cs : List Near) → runs near_tied (map apart cs) ≡ map (map apart) (runs near_tied cs)
runs_apart [] = refl
runs_apart (c ∷ cs) = ap (put near_tied (apart c)) (runs_apart cs) ∙ put_apart c (runs near_tied cs)

nodes_apart : (cs : List Near) → near_nodes (map apart cs) ≡ near_nodes cs
nodes_apart [] = refl
nodes_apart (c ∷ cs) = ap (further c.tree) (nodes_apart cs)

run_apart : (calls : List OuterCall) (r : List Near) → near_run calls (group_data calls) (map apart r) ≡ near_run calls (group_data calls) r
run_apart calls [] = refl
run_apart calls (c ∷ []) = refl
run_apart calls (c ∷ d ∷ ds) = ap (group_at calls (group_data calls) c.before c.byte) (nodes_apart (c ∷ d ∷ ds))

all_apart : (calls : List OuterCall) (rs : List (List Near)) → map (near_run calls (group_data calls)) (map (map apart) rs) ≡ map (near_run calls (group_data calls)) rs
all_apart calls [] = refl
all_apart calls (r ∷ rs) = ap₂ (λ (t : Tree) (ts : List Tree). t ∷ ts) (run_apart calls r) (all_apart calls rs)

apart_same : (calls : List OuterCall) (ns : List Near) → near_runs calls (group_data calls) (map apart ns) ≡ near_runs calls (group_data calls) ns
apart_same calls ns = ap (map (near_run calls (group_data calls))) (runs_apart ns) ∙ all_apart calls (runs near_tied ns)

runs_by : (calls : List OuterCall) (ms ns : List Near) → map apart ms ≡ map apart ns → near_runs calls (group_data calls) ms ≡ near_runs calls (group_data calls) ns
runs_by calls ms ns e = sym (apart_same calls ms) ∙ ap (near_runs calls (group_data calls)) e ∙ apart_same calls ns

-- ---- the walk

abbrev walk_label : List OuterCall → Option ℕ → ℕ → Head → List Item → ItemTrees → List Item → Trees → Tree
walk_label calls o at k x ts c us =
    tree
    (kept_label (is_leaf k.kind) k at (text_from calls o (x ++ (held_by_all ts ++ c))) (text_from calls o x)
    (text_from calls (last_of (last_of o x) (held_by_all ts)) c))
    (inside_by (is_leaf k.kind) us)

nears_by : (calls : List OuterCall) (o : Option ℕ) (at : ℕ) (p q : Option ℕ) (ts : ItemTrees) (c : List Item) → BothFree (last_of o (held_by_all ts)) p q c
    → (BothFree o p q (held_by_all ts) → map apart (near calls (group_data calls) o at p ts) ≡ map apart (near calls (group_data calls) o at q ts))
    → map apart (near calls (group_data calls) o at (first_of c p) ts) ≡ map apart (near calls (group_data calls) o at (first_of c q) ts)
nears_by calls o at p q ts [] h f = f (record { first = h.first; second = h.second })
nears_by calls o at p q ts (x ∷ c) h f = refl

walk_by : (calls : List OuterCall) (o : Option ℕ) (at : ℕ) (p q : Option ℕ) (t : ItemTree) (xs : List Item) → BothFree (last_of o (tree_items t)) p q xs
    → (BothFree o p q (tree_items t) → walked calls (group_data calls) o at p t ≡ walked calls (group_data calls) o at q t)
    → walked calls (group_data calls) o at (first_of xs p) t ≡ walked calls (group_data calls) o at (first_of xs q) t
walk_by calls o at p q t [] h f = f (record { first = h.first; second = h.second })
walk_by calls o at p q t (x ∷ xs) h f = refl

mutual
  pub walk_end : (calls : List OuterCall) (o : Option ℕ) (at : ℕ) (p q : Option ℕ) (t : ItemTree) → BothFree o p q (tree_items t)
      → walked calls (group_data calls) o at p t ≡ walked calls (group_data calls) o at q t
  walk_end calls o at p q (inner k x ts c) h =
      let at2 : ℕ = at + length (text_from calls o x) in
      let behind : BothFree (last_of o x) p q (held_by_all ts ++ c) = free_behind o p q x (held_by_all ts ++ c) h in
      ap (λ (ns : List Tree). walk_label calls o at k x ts c (trees ns))
      (runs_by calls (near calls (group_data calls) (last_of o x) at2 (first_of c p) ts) (near calls (group_data calls) (last_of o x) at2 (first_of c q) ts)
      (nears_by calls (last_of o x) at2 p q ts c (free_behind (last_of o x) p q (held_by_all ts) c behind) (λ b. nears_end calls (last_of o x) at2 p q ts b)))

  nears_end : (calls : List OuterCall) (o : Option ℕ) (at : ℕ) (p q : Option ℕ) (ts : ItemTrees) → BothFree o p q (held_by_all ts)
      → map apart (near calls (group_data calls) o at p ts) ≡ map apart (near calls (group_data calls) o at q ts)
  nears_end calls o at p q nothing h = refl
  nears_end calls o at p q (further t ts) h =
      let xs : List Item = held_by_all ts in
      let behind : BothFree (last_of o (tree_items t)) p q xs = free_behind o p q (tree_items t) xs h in
      let one : Bool → Bool → Tree → Near = λ free clean whole. record { tree = t; before = o; after = None; byte = at; free = free; clean = clean; whole = whole } in
      ap₂ (λ (c : Near) (cs : List Near). c ∷ cs)
      (ap (λ (v : Bool). one v (clean_at o (first_of xs p) t) (walked calls (group_data calls) o at (first_of xs p) t)) (two_same o p q (tree_items t) xs h)
      ∙ ap₂ (one (parted o (first_of (tree_items t) (first_of xs q)))) (clean_by o p q t xs behind)
      (walk_by calls o at p q t xs behind (λ b. walk_end calls o at p q t b)))
      (nears_end calls (last_of o (tree_items t)) (at + length (text_from calls o (tree_items t))) p q ts behind)

-- and so are the nodes and groups among siblings
pub siblings_end : (calls : List OuterCall) (o : Option ℕ) (at : ℕ) (p q : Option ℕ) (ts : ItemTrees) → BothFree o p q (held_by_all ts)
    → near_runs calls (group_data calls) (near calls (group_data calls) o at p ts) ≡ near_runs calls (group_data calls) (near calls (group_data calls) o at q ts)
siblings_end calls o at p q ts h =
    runs_by calls (near calls (group_data calls) o at p ts) (near calls (group_data calls) o at q ts) (nears_end calls o at p q ts h)
