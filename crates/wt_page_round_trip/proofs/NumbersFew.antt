-- A tree with groups has no more numbers than its nodes have and bytes stand in it, where these are shown: each group holds a node,
-- and each text a byte.
use Rattle.std.proofs.Common.{◌≡◌, ℕ, suc, ◌+◌, ◌<◌, ◌≤◌, Bool, true, false, Option, List, [], ◌∷◌, ◌++◌, length, map, refl, sym, ap, ◌∙◌, subst, cond, arith, length-append}
use Rattle.std.specs.Prelude.{◌||◌, if◌then◌else◌}
use Rattle.std.specs.List.{AllByRecursion}
use Rattle.wt_tree.specs.declared.kind.Kind.{Kind}
use Rattle.wt_tree.specs.declared.kind.Kind.TheVariants as kind
use Rattle.wt_tree.specs.declared.row.Placement.TheVariants as class
use Rattle.wt_tree.specs.declared.row.Holding.{Holding}
use Rattle.wt_tree.specs.declared.row.Holding.TheVariants as holding
use Rattle.wt_tree.specs.declared.row.Writing.{Writing}
use Rattle.wt_tree.specs.declared.row.Writing.TheVariants.{AsText, AsVoid, RoundCharacter, RoundChildren, AsSection, Unwritten}
use Rattle.wt_tree.specs.Kinds.{shape, writing, is_leaf, is_numbered, is_section, may_hold, admits, is_anywhere}
use Rattle.wt_recut.specs.Recut.{is_as_text}
use Rattle.wt_recut.specs.Recutting.{is_empty}
use Rattle.wt_tree.specs.Tiling.{is_group}
use Rattle.wt_tree.specs.Tree.{Label, Trees, trees, label}
use Rattle.wt_span.specs.Items.{Item, sources}
use Rattle.wt_span.specs.Origins.{OuterCall}
use Rattle.wt_span.specs.Runs.{runs, AreRuns}
use Rattle.wt_span.proofs.RunLaws.{runs_are}
use Rattle.wt_schema.specs.Written.{is_childless}
use Rattle.wt_inline.specs.ItemTree.{ItemTree, inner, ItemTrees, nothing, further, tree_items, held_by_all}
use Rattle.wt_inline.proofs.HeldLaws.{sources_append}
use Rattle.wt_annotated.specs.Annotated.{unplaced, all_unplaced}
use Rattle.wt_annotated.specs.Counted.{count_by, numbered, numbered_in_all}
use Rattle.wt_annotated.specs.GroupData.{group_data}
use Rattle.wt_annotated.specs.Labels.{width, if_leaf, label_at}
use Rattle.wt_annotated.specs.Numbering.{count, count_all}
use Rattle.wt_annotated.specs.Seams.{last_of, first_of, text_from}
use Rattle.wt_annotated.specs.Walked.{Near, near_tied, near_nodes, near_group, near_run, near_runs, walked, near}
use Rattle.wt_annotated.specs.WithoutCalls.{inside_by}
use Rattle.wt_page_round_trip.proofs.ShownNodes.{NodeIsShown, IsShownIn, AreShownIn}

-- ---- nodes that aren't part of a leaf

abbrev mutual
  pub weight : ItemTree → ℕ
  weight (inner h opening ts closing) = 1 + count_by (is_leaf h.kind) (weights ts)

  pub weights : ItemTrees → ℕ
  weights nothing = 0
  weights (further t ts) = weight t + weights ts

some_weight : (t : ItemTree) → 0 < weight t
some_weight (inner h opening ts closing) = omega arith

-- ---- a node and a group have no more numbers

abbrev IsLight : Near → Type 0
IsLight c = count c.whole ≤ weight c.tree

group_count : (calls : List OuterCall) (cs : List Near) → count (near_group calls (group_data calls) cs) ≡ 1
group_count calls [] = refl
group_count calls (c ∷ cs) = refl

one_light : (v : Bool) (calls : List OuterCall) (c : Near) → IsLight c → count (cond v c.whole (near_group calls (group_data calls) (c ∷ []))) ≤ weight c.tree
one_light true calls c h = h
one_light false calls c h = omega (arith, group_count calls (c ∷ []), some_weight c.tree)

first_light : (cs ds : List Near) → AllByRecursion IsLight (cs ++ ds) → AllByRecursion IsLight cs
first_light [] ds h = tt
first_light (c ∷ cs) ds h = (h.0, first_light cs ds h.1)

rest_light : (cs ds : List Near) → AllByRecursion IsLight (cs ++ ds) → AllByRecursion IsLight ds
rest_light [] ds h = h
rest_light (c ∷ cs) ds h = rest_light cs ds h.1

weights_both : (cs ds : List Near) → weights (near_nodes (cs ++ ds)) ≡ weights (near_nodes cs) + weights (near_nodes ds)
weights_both [] ds = omega arith
weights_both (c ∷ cs) ds = omega (arith, weights_both cs ds)

run_light : (calls : List OuterCall) (c : Near) (cs : List Near) → AllByRecursion IsLight (c ∷ cs)
    → count (near_run calls (group_data calls) (c ∷ cs)) ≤ weights (near_nodes (c ∷ cs))
run_light calls c [] h = omega (arith, one_light c.clean calls c h.0)
run_light calls c (d ∷ ds) h = omega (arith, group_count calls (c ∷ d ∷ ds), some_weight c.tree)

runs_light : (calls : List OuterCall) (rs : List (List Near)) (cs : List Near) → AreRuns near_tied rs cs → AllByRecursion IsLight cs
    → count_all (trees (map (near_run calls (group_data calls)) rs)) ≤ weights (near_nodes cs)
runs_light calls [] cs a h = omega arith
runs_light calls ([] ∷ rs) cs a h = absurd a.2
runs_light calls ((c ∷ r) ∷ rs) cs a h =
    let g : AllByRecursion IsLight ((c ∷ r) ++ a.0) = subst (λ (ds : List Near). AllByRecursion IsLight ds) a.1 h in
    let e : weights (near_nodes cs) ≡ weights (near_nodes ((c ∷ r) ++ a.0)) = ap (λ (ds : List Near). weights (near_nodes ds)) a.1 in
    omega (
      arith,
      run_light calls c r (first_light (c ∷ r) a.0 g),
      runs_light calls rs a.0 a.3 (rest_light (c ∷ r) a.0 g),
      weights_both (c ∷ r) a.0,
      e,
    )

kept_light : (n g leaf : Bool) (us : Trees) (m : ℕ) → count_all us ≤ m
    → (if n then 1 else 0) + (if g then 0 else count_all (inside_by leaf us)) ≤ 1 + count_by leaf m
kept_light n true leaf us m h = by_number n
  where
    by_number : (v : Bool) → (if v then 1 else 0) + 0 ≤ 1 + count_by leaf m
    by_number true = omega arith
    by_number false = omega arith
kept_light true false true us m h = omega arith
kept_light false false true us m h = omega arith
kept_light true false false us m h = omega (arith, h)
kept_light false false false us m h = omega (arith, h)

nodes_are : (calls : List OuterCall) (o : Option ℕ) (at : ℕ) (p : Option ℕ) (ts : ItemTrees) → near_nodes (near calls (group_data calls) o at p ts) ≡ ts
nodes_are calls o at p nothing = refl
nodes_are calls o at p (further t ts) =
    ap (further t) (nodes_are calls (last_of o (tree_items t)) (at + length (text_from calls o (tree_items t))) p ts)

children_by : (calls : List OuterCall) (o : Option ℕ) (at : ℕ) (p : Option ℕ) (ts : ItemTrees) → AllByRecursion IsLight (near calls (group_data calls) o at p ts)
    → count_all (trees (near_runs calls (group_data calls) (near calls (group_data calls) o at p ts))) ≤ weights ts
children_by calls o at p ts h =
    let ns : List Near = near calls (group_data calls) o at p ts in
    let e : weights (near_nodes ns) ≡ weights ts = ap weights (nodes_are calls o at p ts) in
    omega (arith, runs_light calls (runs near_tied ns) ns (runs_are near_tied ns) h, e)

mutual
  walked_light : (calls : List OuterCall) (o : Option ℕ) (at : ℕ) (p : Option ℕ) (t : ItemTree) → count (walked calls (group_data calls) o at p t) ≤ weight t
  walked_light calls o at p (inner h opening ts closing) =
      let place : ℕ = at + length (text_from calls o opening) in
      kept_light (is_numbered h.kind) (is_group h.kind) (is_leaf h.kind)
      (trees (near_runs calls (group_data calls) (near calls (group_data calls) (last_of o opening) place (first_of closing p) ts))) (weights ts)
      (children_by calls (last_of o opening) place (first_of closing p) ts (nears_light calls (last_of o opening) place (first_of closing p) ts))

  nears_light : (calls : List OuterCall) (o : Option ℕ) (at : ℕ) (p : Option ℕ) (ts : ItemTrees) → AllByRecursion IsLight (near calls (group_data calls) o at p ts)
  nears_light calls o at p nothing = tt
  nears_light calls o at p (further t ts) = (
    walked_light calls o at (first_of (held_by_all ts) p) t,
    nears_light calls (last_of o (tree_items t)) (at + length (text_from calls o (tree_items t))) p ts,
  )

-- what children become has no more numbers than they weigh
pub children_light : (calls : List OuterCall) (o : Option ℕ) (at : ℕ) (p : Option ℕ) (ts : ItemTrees)
    → count_all (trees (near_runs calls (group_data calls) (near calls (group_data calls) o at p ts))) ≤ weights ts
children_light calls o at p ts = children_by calls o at p ts (nears_light calls o at p ts)

-- ---- nodes that are shown

nowhere : (h : Holding) → (is_anywhere class.Nowhere || admits h class.Nowhere) ≡ true → ⊥
nowhere holding.NoElements e = absurd cc
nowhere holding.Blocks e = absurd cc
nowhere holding.Inlines e = absurd cc
nowhere holding.Entities e = absurd cc
nowhere holding.Items e = absurd cc
nowhere holding.Terms e = absurd cc
nowhere holding.TableParts e = absurd cc
nowhere holding.TableRows e = absurd cc
nowhere holding.Cells e = absurd cc
nowhere holding.InlinesThenLists e = absurd cc
nowhere holding.InlinesThenBlocks e = absurd cc

-- what may stand in another node has a number
held_numbered : (q k : Kind) → may_hold q k ≡ true → is_section k ≡ false → is_numbered k ≡ true
held_numbered q kind.Body e s = absurd (nowhere (shape q).holding e)
held_numbered q (kind.Section n) e s = absurd cc
held_numbered q kind.Sep e s = absurd (nowhere (shape q).holding e)
held_numbered q kind.Text e s = absurd (nowhere (shape q).holding e)
held_numbered q k e s = refl

text_leaf : (k : Kind) → is_as_text (writing k) ≡ true → is_leaf k ≡ true
text_leaf kind.Sep e = refl
text_leaf kind.Text e = refl
text_leaf k e = absurd cc

empty_numbered : (k : Kind) → k ≡ kind.Empty → is_numbered k ≡ true
empty_numbered k e = ap is_numbered e

wide : (xs ys : List Item) → width (xs ++ ys) ≡ width xs + width ys
wide xs ys = ap length (sources_append xs ys) ∙ length-append (sources xs) (sources ys)

some_bytes : (bs : List ℕ) → is_empty bs ≡ false → 0 < length bs
some_bytes [] e = absurd cc
some_bytes (b ∷ bs) e = omega arith

text_light : (leaf : Bool) (xs : List Item) (m n : ℕ) (v : Bool) → leaf ≡ true → is_empty (if_leaf leaf (sources xs)) ≡ false
    → 1 + count_by leaf m ≤ ((if v then 1 else 0) + count_by leaf n) + width xs
text_light true xs m n true e f = omega (arith, some_bytes (sources xs) f)
text_light true xs m n false e f = omega (arith, some_bytes (sources xs) f)
text_light false xs m n v e f = absurd cc

numbered_light : (leaf v : Bool) (m n w : ℕ) → v ≡ true → (leaf ≡ false → m ≤ n + w) → 1 + count_by leaf m ≤ ((if v then 1 else 0) + count_by leaf n) + w
numbered_light true true m n w e h = omega arith
numbered_light false true m n w e h = omega (arith, h refl)
numbered_light leaf false m n w e h = absurd cc

inner_light : (leaf : Bool) (P : Trees → Type 0) (us : Trees) → leaf ≡ false → P (inside_by leaf us) → P us
inner_light true P us e h = absurd cc
inner_light false P us e h = h

by_writing : (w : Writing) (k : ℕ) (q : Kind) (l : Label) (childless : Bool) (inside : Type 0) (xs : List Item) (m n : ℕ) → writing l.kind ≡ w
    → l.own ≡ if_leaf (is_leaf l.kind) (sources xs) → (is_leaf l.kind ≡ false → inside → m ≤ n + width xs) → NodeIsShown w k q l childless inside
    → 1 + count_by (is_leaf l.kind) m ≤ ((if is_numbered l.kind then 1 else 0) + count_by (is_leaf l.kind) n) + width xs
by_writing AsText k q l childless inside xs m n e o f h =
    text_light (is_leaf l.kind) xs m n (is_numbered l.kind) (text_leaf l.kind (ap is_as_text e)) (ap is_empty (sym o) ∙ h.0.some)
by_writing AsVoid k q l childless inside xs m n e o f h =
    numbered_light (is_leaf l.kind) (is_numbered l.kind) m n (width xs) (held_numbered q l.kind h.1 h.2.element) (λ g. f g h.4)
by_writing RoundCharacter k q l childless inside xs m n e o f h =
    numbered_light (is_leaf l.kind) (is_numbered l.kind) m n (width xs) (held_numbered q l.kind h.1 h.2.element) (λ g. f g h.4)
by_writing RoundChildren k q l childless inside xs m n e o f h =
    numbered_light (is_leaf l.kind) (is_numbered l.kind) m n (width xs) (held_numbered q l.kind h.1 h.2.element) (λ g. f g h.4)
by_writing (AsSection s) k q l childless inside xs m n e o f h = absurd h
by_writing Unwritten k q l childless inside xs m n e o f h =
    numbered_light (is_leaf l.kind) (is_numbered l.kind) m n (width xs) (empty_numbered l.kind h.0)
    (λ g. absurd (let x : true ≡ false = ap is_leaf (sym h.0) ∙ g in cc))

mutual
  unfolding label_at

  node_light : (k : ℕ) (q : Kind) (t : ItemTree) → IsShownIn k q (unplaced t) → weight t ≤ numbered t + width (tree_items t)
  node_light k q (inner h opening ts closing) s =
      let xs : List Item = opening ++ (held_by_all ts ++ closing) in
      by_writing (writing h.kind) k q (label (unplaced (inner h opening ts closing))) (is_childless (inside_by (is_leaf h.kind) (all_unplaced ts))) _ xs
      (weights ts) (numbered_in_all ts) refl refl
      (λ g i.
      let inside : weights ts ≤ numbered_in_all ts + width (held_by_all ts) =
      nodes_light (suc k) h.kind ts (inner_light (is_leaf h.kind) (AreShownIn (suc k) h.kind) (all_unplaced ts) g i.1) in
      omega (arith, inside, wide opening (held_by_all ts ++ closing), wide (held_by_all ts) closing)) s

  pub nodes_light : (k : ℕ) (q : Kind) (ts : ItemTrees) → AreShownIn k q (all_unplaced ts) → weights ts ≤ numbered_in_all ts + width (held_by_all ts)
  nodes_light k q nothing s = omega arith
  nodes_light k q (further t ts) s =
      omega (arith, node_light k q t s.0, nodes_light k q ts s.1, wide (tree_items t) (held_by_all ts))
