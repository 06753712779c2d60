-- What is before the first item of some nodes is nothing to their walk, where the cut between is free.
use Rattle.std.proofs.Common.{◌≡◌, ℕ, ◌+◌, Bool, true, false, Option, None, List, [], ◌∷◌, ◌++◌, length, map, refl, sym, ap, ap₂, ◌∙◌, subst, cond, append-nil, append_assoc}
use Rattle.std.specs.Prelude.{not, ◌&&◌, ◌||◌}
use Rattle.std.specs.List.{list_all, list_any}
use Rattle.wt_tree.specs.Kinds.{is_leaf}
use Rattle.wt_tree.specs.Tree.{Tree, tree, trees}
use Rattle.wt_span.specs.Items.{Item, source, call_of}
use Rattle.wt_span.specs.Origins.{OuterCall}
use Rattle.wt_span.specs.Cuts.{text_by}
use Rattle.wt_span.specs.Runs.{put, runs}
use Rattle.wt_inline.specs.ItemTree.{ItemTree, inner, ItemTrees, nothing, further, tree_items, held_by_all}
use Rattle.wt_annotated.specs.Annotated.{kept_label, group_label, all_unplaced}
use Rattle.wt_annotated.specs.Clean.{is_page, is_body, own_by}
use Rattle.wt_annotated.specs.GroupData.{group_data}
use Rattle.wt_annotated.specs.Seams.{last_of, first_of, parted, text_from}
use Rattle.wt_annotated.specs.Walked.{clean_at, part_step, parts_from, Near, near_tied, near_nodes, group_at, near_run, near_runs, walked, near}
use Rattle.wt_annotated.specs.WithoutCalls.{inside_by}
use Rattle.wt_annotated.proofs.Seams.{first_append, last_append}

-- ---- cuts

-- before the first of these items both cuts are free
pub record FreeStarts (o a p : Option ℕ) (xs : List Item) : Type 0 where
  pub first : parted o (first_of xs p) ≡ true
  pub second : parted a (first_of xs p) ≡ true

-- the same, if there is an item
abbrev StartFree : Option ℕ → Option ℕ → List Item → Type 0
StartFree o a [] = Unit {0}
StartFree o a (x ∷ xs) = (parted o (call_of x) ≡ true) × (parted a (call_of x) ≡ true)

start_free : (o a p : Option ℕ) (xs : List Item) → FreeStarts o a p xs → StartFree o a xs
start_free o a p [] h = tt
start_free o a p (x ∷ xs) h = (h.first, h.second)

front_free : (o a : Option ℕ) (xs ys : List Item) → StartFree o a (xs ++ ys) → StartFree o a xs
front_free o a [] ys h = tt
front_free o a (x ∷ xs) ys h = h

-- behind some of them
cut_same : (o a p : Option ℕ) (xs ys : List Item) → FreeStarts o a p (xs ++ ys) → parted (last_of o xs) (first_of ys p) ≡ parted (last_of a xs) (first_of ys p)
cut_same o a p [] ys h = h.first ∙ sym h.second
cut_same o a p (x ∷ xs) ys h = refl

regrouped : (o a p : Option ℕ) (xs ys : List Item) → xs ≡ ys → FreeStarts o a p xs → FreeStarts o a p ys
regrouped o a p xs ys e h = subst (FreeStarts o a p) e h

-- ---- what is on the page

text_start : (calls : List OuterCall) (o a : Option ℕ) (xs : List Item) → StartFree o a xs → text_from calls o xs ≡ text_from calls a xs
text_start calls o a [] h = refl
text_start calls o a (x ∷ xs) h =
    ap (λ (v : Bool). cond v (text_by calls (call_of x) (source x)) [] ++ text_from calls (call_of x) xs) (h.0 ∙ sym h.1)

-- so for these items is the same on the page
pub text_free : (calls : List OuterCall) (o a p : Option ℕ) (xs : List Item) → FreeStarts o a p xs → text_from calls o xs ≡ text_from calls a xs
text_free calls o a p xs h = text_start calls o a xs (start_free o a p xs h)

text_later : (calls : List OuterCall) (o a : Option ℕ) (xs ys : List Item) → StartFree o a (xs ++ ys) → text_from calls (last_of o xs) ys ≡ text_from calls (last_of a xs) ys
text_later calls o a [] ys h = text_start calls o a ys h
text_later calls o a (x ∷ xs) ys h = refl

parts_start : (o a : Option ℕ) (xs : List Item) → StartFree o a xs → parts_from o None xs ≡ parts_from a None xs
parts_start o a [] h = refl
parts_start o a (x ∷ xs) h = ap (λ (v : Bool). part_step v (call_of x) (source x) None (λ s. parts_from (call_of x) s xs)) (h.0 ∙ sym h.1)

group_start : (calls : List OuterCall) (o a : Option ℕ) (at : ℕ) (ts : ItemTrees) → StartFree o a (held_by_all ts)
    → group_at calls (group_data calls) o at ts ≡ group_at calls (group_data calls) a at ts
group_start calls o a at ts h =
    ap₂ (λ bs ps. tree (group_label at bs (group_data calls ps)) (all_unplaced ts)) (text_start calls o a (held_by_all ts) h) (parts_start o a (held_by_all ts) h)

-- ---- clean nodes

four : (a b c d e f g h : Bool) → a ≡ e → b ≡ f → c ≡ g → d ≡ h → (a && (b && (c && d))) ≡ (e && (f && (g && h)))
four a b c d e f g h i j k l = ap₂ (λ (x y : Bool). x && y) i (ap₂ (λ (x y : Bool). x && y) j (ap₂ (λ (x y : Bool). x && y) k l))

three_first : (xs ys zs : List Item) (p : Option ℕ) → first_of (xs ++ (ys ++ zs)) p ≡ first_of xs (first_of ys (first_of zs p))
three_first xs ys zs p = first_append xs (ys ++ zs) p ∙ ap (first_of xs) (first_append ys zs p)

pub clean_same : (o a p : Option ℕ) (t : ItemTree) → FreeStarts o a p (tree_items t) → clean_at o p t ≡ clean_at a p t
clean_same o a p (inner k x ts c) h =
    let i : List Item = held_by_all ts in
    let e1 : first_of (x ++ (i ++ c)) p ≡ first_of x (first_of i (first_of c p)) = three_first x i c p in
    let e2 : first_of (i ++ c) p ≡ first_of i (first_of c p) = first_append i c p in
    let g : FreeStarts o a p ((x ++ i) ++ c) = regrouped o a p (x ++ (i ++ c)) ((x ++ i) ++ c) (sym (append_assoc x i c)) h in
    let w : FreeStarts o a p (((x ++ i) ++ c) ++ []) = regrouped o a p ((x ++ i) ++ c) (((x ++ i) ++ c) ++ []) (sym (append-nil ((x ++ i) ++ c))) g in
    let l3 : (b : Option ℕ) → last_of b (x ++ i) ≡ last_of (last_of b x) i = λ b. last_append b x i in
    let l4 : (b : Option ℕ) → last_of b ((x ++ i) ++ c) ≡ last_of (last_of (last_of b x) i) c = λ b. last_append b (x ++ i) c ∙ ap (λ (d : Option ℕ). last_of d c) (l3 b) in
    ap (λ (v : Bool). v && (list_all is_page (own_by (is_leaf k.kind) x i c) && (is_body k.kind || list_any is_page (x ++ (i ++ c)))))
    (four (parted o (first_of x (first_of i (first_of c p)))) (parted (last_of o x) (first_of i (first_of c p))) (parted (last_of (last_of o x) i) (first_of c p))
    (parted (last_of (last_of (last_of o x) i) c) p) (parted a (first_of x (first_of i (first_of c p)))) (parted (last_of a x) (first_of i (first_of c p)))
    (parted (last_of (last_of a x) i) (first_of c p)) (parted (last_of (last_of (last_of a x) i) c) p)
    (sym (ap (parted o) e1) ∙ cut_same o a p [] (x ++ (i ++ c)) h ∙ ap (parted a) e1)
    (sym (ap (parted (last_of o x)) e2) ∙ cut_same o a p x (i ++ c) h ∙ ap (parted (last_of a x)) e2)
    (sym (ap (λ (b : Option ℕ). parted b (first_of c p)) (l3 o)) ∙ cut_same o a p (x ++ i) c g ∙ ap (λ (b : Option ℕ). parted b (first_of c p)) (l3 a))
    (sym (ap (λ (b : Option ℕ). parted b p) (l4 o)) ∙ cut_same o a p ((x ++ i) ++ c) [] w ∙ ap (λ (b : Option ℕ). parted b p) (l4 a)))

-- ---- runs

-- Of runs of siblings behind an item of the first call, and behind one of the second: the first of both has the same nodes, all are the same, and so would
-- the first be if these items came before it.
abbrev RunsAlike : List OuterCall → Option ℕ → Option ℕ → List Item → List (List Near) → List (List Near) → Type 0
RunsAlike calls o a xs [] [] = Unit {0}
RunsAlike calls o a xs [] (s ∷ ss) = ⊥
RunsAlike calls o a xs (r ∷ rs) [] = ⊥
RunsAlike calls o a xs ([] ∷ rs) (s ∷ ss) = ⊥
RunsAlike calls o a xs ((c ∷ cs) ∷ rs) ([] ∷ ss) = ⊥
RunsAlike calls o a xs ((c ∷ cs) ∷ rs) ((d ∷ ds) ∷ ss) =
    (c.free ≡ d.free) × (near_nodes (c ∷ cs) ≡ near_nodes (d ∷ ds)) × StartFree o a (xs ++ held_by_all (near_nodes (c ∷ cs)))
    × (near_run calls (group_data calls) (c ∷ cs) ≡ near_run calls (group_data calls) (d ∷ ds))
    × (map (near_run calls (group_data calls)) rs ≡ map (near_run calls (group_data calls)) ss)

all_alike : (calls : List OuterCall) (o a : Option ℕ) (xs : List Item) (rs ss : List (List Near)) → RunsAlike calls o a xs rs ss
    → map (near_run calls (group_data calls)) rs ≡ map (near_run calls (group_data calls)) ss
all_alike calls o a xs [] [] h = refl
all_alike calls o a xs [] (s ∷ ss) h = absurd h
all_alike calls o a xs (r ∷ rs) [] h = absurd h
all_alike calls o a xs ([] ∷ rs) (s ∷ ss) h = absurd h
all_alike calls o a xs ((c ∷ cs) ∷ rs) ([] ∷ ss) h = absurd h
all_alike calls o a xs ((c ∷ cs) ∷ rs) ((d ∷ ds) ∷ ss) h = ap₂ (λ (t : Tree) (ts : List Tree). t ∷ ts) h.3 h.4

abbrev there : ItemTree → Option ℕ → Option ℕ → ℕ → Bool → Bool → Tree → Near
there t o p at free clean whole = record { tree = t; before = o; after = p; byte = at; free = free; clean = clean; whole = whole }

alone_free : (o a : Option ℕ) (xs : List Item) → StartFree o a xs → StartFree o a (xs ++ [])
alone_free o a xs h = subst (StartFree o a) (sym (append-nil xs)) h

alone_same : (calls : List OuterCall) (o a : Option ℕ) (at : ℕ) (t : ItemTree) (clean : Bool) (whole : Tree) → StartFree o a (tree_items t)
    → cond clean whole (group_at calls (group_data calls) o at (further t nothing)) ≡ cond clean whole (group_at calls (group_data calls) a at (further t nothing))
alone_same calls o a at t clean whole h = ap (cond clean whole) (group_start calls o a at (further t nothing) (alone_free o a (tree_items t) h))

-- one more sibling before them, whose items these are
put_alike : (calls : List OuterCall) (o a p : Option ℕ) (at : ℕ) (t : ItemTree) (free clean : Bool) (whole : Tree) (rs ss : List (List Near))
    → StartFree o a (tree_items t) → RunsAlike calls o a (tree_items t) rs ss
    → RunsAlike calls o a [] (put near_tied (there t o p at free clean whole) rs) (put near_tied (there t a p at free clean whole) ss)
put_alike calls o a p at t free clean whole [] [] own h =
    (refl, refl, alone_free o a (tree_items t) own, alone_same calls o a at t clean whole own, refl)
put_alike calls o a p at t free clean whole [] (s ∷ ss) own h = absurd h
put_alike calls o a p at t free clean whole (r ∷ rs) [] own h = absurd h
put_alike calls o a p at t free clean whole ([] ∷ rs) (s ∷ ss) own h = absurd h
put_alike calls o a p at t free clean whole ((c ∷ cs) ∷ rs) ([] ∷ ss) own h = absurd h
put_alike calls o a p at t free clean whole ((c ∷ cs) ∷ rs) ((d ∷ ds) ∷ ss) own h =
    let x : Near = there t o p at free clean whole in
    let y : Near = there t a p at free clean whole in
    let group : group_at calls (group_data calls) o at (further t (near_nodes (c ∷ cs))) ≡ group_at calls (group_data calls) a at (further t (near_nodes (d ∷ ds))) =
    group_start calls o a at (further t (near_nodes (c ∷ cs))) h.2 ∙ ap (λ ns. group_at calls (group_data calls) a at (further t ns)) h.1 in
    let tied : RunsAlike calls o a [] ((x ∷ c ∷ cs) ∷ rs) ((y ∷ d ∷ ds) ∷ ss) = (refl, ap (further t) h.1, h.2, group, h.4) in
    let untied : RunsAlike calls o a [] ((x ∷ []) ∷ (c ∷ cs) ∷ rs) ((y ∷ []) ∷ (d ∷ ds) ∷ ss) = (
      refl,
      refl,
      alone_free o a (tree_items t) own,
      alone_same calls o a at t clean whole own,
      ap₂ (λ (u : Tree) (us : List Tree). u ∷ us) h.3 h.4,
    ) in
    subst (λ (v : Bool). RunsAlike calls o a [] (put near_tied x ((c ∷ cs) ∷ rs)) (cond (not v) ((y ∷ d ∷ ds) ∷ ss) ((y ∷ []) ∷ (d ∷ ds) ∷ ss))) h.0
    (either (not c.free) ((x ∷ c ∷ cs) ∷ rs) ((x ∷ []) ∷ (c ∷ cs) ∷ rs) ((y ∷ d ∷ ds) ∷ ss) ((y ∷ []) ∷ (d ∷ ds) ∷ ss) tied untied)
  where
    either : (v : Bool) (qs rs ss us : List (List Near)) → RunsAlike calls o a [] qs ss → RunsAlike calls o a [] rs us
        → RunsAlike calls o a [] (cond v qs rs) (cond v ss us)
    either true qs rs ss us e f = e
    either false qs rs ss us e f = f

-- where some items come before them, all are the same
abbrev Solid : List (List Near) → Type 0
Solid [] = Unit {0}
Solid ([] ∷ rs) = ⊥
Solid ((c ∷ cs) ∷ rs) = Unit {0}

put_solid : (c : Near) (rs : List (List Near)) → Solid (put near_tied c rs)
put_solid c [] = tt
put_solid c ([] ∷ rs) = tt
put_solid c ((d ∷ ds) ∷ rs) = by (near_tied c d)
  where
    by : (v : Bool) → Solid (cond v ((c ∷ d ∷ ds) ∷ rs) ((c ∷ []) ∷ (d ∷ ds) ∷ rs))
    by true = tt
    by false = tt

runs_solid : (cs : List Near) → Solid (runs near_tied cs)
runs_solid [] = tt
runs_solid (c ∷ cs) = put_solid c (runs near_tied cs)

same_runs : (calls : List OuterCall) (o a : Option ℕ) (x : Item) (xs : List Item) (rs : List (List Near)) → StartFree o a (x ∷ xs) → Solid rs
    → RunsAlike calls o a (x ∷ xs) rs rs
same_runs calls o a x xs [] h w = tt
same_runs calls o a x xs ([] ∷ rs) h w = absurd w
same_runs calls o a x xs ((c ∷ cs) ∷ rs) h w = (refl, refl, h, refl, refl)

-- behind these items
later_alike : (calls : List OuterCall) (o a : Option ℕ) (at : ℕ) (p : Option ℕ) (ts : ItemTrees) (xs : List Item) → FreeStarts o a p (xs ++ held_by_all ts)
    → (FreeStarts o a p (held_by_all ts)
    → RunsAlike calls o a [] (runs near_tied (near calls (group_data calls) o at p ts)) (runs near_tied (near calls (group_data calls) a at p ts)))
    → RunsAlike calls o a xs (runs near_tied (near calls (group_data calls) (last_of o xs) at p ts)) (runs near_tied (near calls (group_data calls) (last_of a xs) at p ts))
later_alike calls o a at p ts [] h f = f h
later_alike calls o a at p ts (x ∷ xs) h f =
    same_runs calls o a x xs (runs near_tied (near calls (group_data calls) (last_of o (x ∷ xs)) at p ts)) (h.first, h.second)
    (runs_solid (near calls (group_data calls) (last_of o (x ∷ xs)) at p ts))

-- ---- the walk

abbrev walk_node : ℕ → Bool → ItemTree → List ℕ → List ℕ → List ℕ → List Tree → Tree
walk_node at leaf (inner k x ts c) all opening closing us = tree (kept_label leaf k at all opening closing) (inside_by leaf (trees us))

-- the items of the first of some trees
pub own_free : (o a p : Option ℕ) (xs ys : List Item) → FreeStarts o a p (xs ++ ys) → FreeStarts o a (first_of ys p) xs
own_free o a p xs ys h = record {
  first = ap (parted o) (sym (first_append xs ys p)) ∙ h.first;
  second = ap (parted a) (sym (first_append xs ys p)) ∙ h.second;
}

mutual
  pub walk_start : (calls : List OuterCall) (o a : Option ℕ) (at : ℕ) (p : Option ℕ) (t : ItemTree) → FreeStarts o a p (tree_items t)
      → walked calls (group_data calls) o at p t ≡ walked calls (group_data calls) a at p t
  walk_start calls o a at p (inner k x ts c) h =
      let t : ItemTree = inner k x ts c in
      let i : List Item = held_by_all ts in
      let leaf : Bool = is_leaf k.kind in
      let starts : StartFree o a (x ++ (i ++ c)) = start_free o a p (x ++ (i ++ c)) h in
      let back : StartFree o a ((x ++ i) ++ c) = subst (StartFree o a) (sym (append_assoc x i c)) starts in
      let before : FreeStarts o a (first_of c p) (x ++ i) =
      own_free o a p (x ++ i) c (regrouped o a p (x ++ (i ++ c)) ((x ++ i) ++ c) (sym (append_assoc x i c)) h) in
      let all : text_from calls o (x ++ (i ++ c)) ≡ text_from calls a (x ++ (i ++ c)) = text_start calls o a (x ++ (i ++ c)) starts in
      let first : text_from calls o x ≡ text_from calls a x = text_start calls o a x (front_free o a x (i ++ c) starts) in
      let last : text_from calls (last_of (last_of o x) i) c ≡ text_from calls (last_of (last_of a x) i) c =
      ap (λ (b : Option ℕ). text_from calls b c) (sym (last_append o x i))
      ∙ text_later calls o a (x ++ i) c back
      ∙ ap (λ (b : Option ℕ). text_from calls b c) (last_append a x i) in
      let inside : Option ℕ → List ℕ → List Tree = λ b bs. near_runs calls (group_data calls) (near calls (group_data calls) (last_of b x) (at + length bs) (first_of c p) ts) in
      ap (λ bs. walk_node at leaf t bs (text_from calls o x) (text_from calls (last_of (last_of o x) i) c) (inside o (text_from calls o x))) all
      ∙ ap (λ bs. walk_node at leaf t (text_from calls a (x ++ (i ++ c))) (text_from calls o x) bs (inside o (text_from calls o x))) last
      ∙ ap (λ us. walk_node at leaf t (text_from calls a (x ++ (i ++ c))) (text_from calls o x) (text_from calls (last_of (last_of a x) i) c) us)
      (all_alike calls o a x (runs near_tied (near calls (group_data calls) (last_of o x) (at + length (text_from calls o x)) (first_of c p) ts))
      (runs near_tied (near calls (group_data calls) (last_of a x) (at + length (text_from calls o x)) (first_of c p) ts))
      (later_alike calls o a (at + length (text_from calls o x)) (first_of c p) ts x before
      (λ g. nears_start calls o a (at + length (text_from calls o x)) (first_of c p) ts g)))
      ∙ ap (λ bs. walk_node at leaf t (text_from calls a (x ++ (i ++ c))) bs (text_from calls (last_of (last_of a x) i) c) (inside a bs)) first

  nears_start : (calls : List OuterCall) (o a : Option ℕ) (at : ℕ) (p : Option ℕ) (ts : ItemTrees) → FreeStarts o a p (held_by_all ts)
      → RunsAlike calls o a [] (runs near_tied (near calls (group_data calls) o at p ts)) (runs near_tied (near calls (group_data calls) a at p ts))
  nears_start calls o a at p nothing h = tt
  nears_start calls o a at p (further t ts) h =
      let xs : List Item = tree_items t in
      let q : Option ℕ = first_of (held_by_all ts) p in
      let own : FreeStarts o a q xs = own_free o a p xs (held_by_all ts) h in
      let starts : StartFree o a xs = start_free o a q xs own in
      let at2 : ℕ = at + length (text_from calls o xs) in
      let bytes : text_from calls o xs ≡ text_from calls a xs = text_start calls o a xs starts in
      let others : ℕ → List (List Near) = λ n. runs near_tied (near calls (group_data calls) (last_of a xs) n p ts) in
      let head : there t a q at (parted o (first_of xs q)) (clean_at o q t) (walked calls (group_data calls) o at q t)
      ≡ there t a q at (parted a (first_of xs q)) (clean_at a q t) (walked calls (group_data calls) a at q t) =
      ap (λ (v : Bool). there t a q at v (clean_at o q t) (walked calls (group_data calls) o at q t)) (own.first ∙ sym own.second)
      ∙ ap₂ (there t a q at (parted a (first_of xs q))) (clean_same o a q t own) (walk_start calls o a at q t own) in
      subst (λ (y : Near). RunsAlike calls o a [] (runs near_tied (near calls (group_data calls) o at p (further t ts))) (put near_tied y (others (at + length (text_from calls a xs))))) head
      (subst (λ (bs : List ℕ). RunsAlike calls o a [] (runs near_tied (near calls (group_data calls) o at p (further t ts)))
      (put near_tied (there t a q at (parted o (first_of xs q)) (clean_at o q t) (walked calls (group_data calls) o at q t)) (others (at + length bs)))) bytes
      (put_alike calls o a q at t (parted o (first_of xs q)) (clean_at o q t) (walked calls (group_data calls) o at q t)
      (runs near_tied (near calls (group_data calls) (last_of o xs) at2 p ts)) (others at2) starts
      (later_alike calls o a at2 p ts xs h (λ g. nears_start calls o a at2 p ts g))))

-- and so are the nodes and groups among siblings
pub siblings_start : (calls : List OuterCall) (o a : Option ℕ) (at : ℕ) (p : Option ℕ) (ts : ItemTrees) → FreeStarts o a p (held_by_all ts)
    → near_runs calls (group_data calls) (near calls (group_data calls) o at p ts) ≡ near_runs calls (group_data calls) (near calls (group_data calls) a at p ts)
siblings_start calls o a at p ts h =
    all_alike calls o a [] (runs near_tied (near calls (group_data calls) o at p ts)) (runs near_tied (near calls (group_data calls) a at p ts))
    (nears_start calls o a at p ts h)
