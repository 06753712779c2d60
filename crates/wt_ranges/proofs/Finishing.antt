-- Nodes that get their numbers and whose texts are cut anew, one after another.
use Rattle.std.proofs.Common.{◌≡◌, ℕ, ◌+◌, ◌^◌, ◌<◌, ◌≤◌, Bool, true, false, Some, List, [], ◌∷◌, ◌++◌, length, map, refl, sym, ap, ◌∙◌, subst, cond, arith, append_assoc, append-nil}
use Rattle.std.specs.List.{AllByRecursion}
use Rattle.std.proofs.lemmas.List.{map-append}
use Rattle.wt_tree.specs.declared.node.Node.{Node}
use Rattle.wt_tree.specs.View.{texts_of, view, views}
use Rattle.wt_tree.specs.declared.row.Texts.{Texts}
use Rattle.wt_tree.specs.Kinds.{is_leaf, is_numbered, texts_of_kind}
use Rattle.wt_tree.specs.Tiling.{is_group}
use Rattle.wt_tree.specs.Tree.{Label, Tree, tree, Trees, none, more, label, trees}
use Rattle.wt_span.specs.Origins.{OuterCall}
use Rattle.wt_inline.specs.View.{head_of, item_trees}
use Rattle.wt_inline.specs.declared.tree.NodeHead.{NodeHead}
use Rattle.wt_inline.specs.declared.tree.PieceTree.{out-PieceTree}
use Rattle.wt_annotated.specs.CutTexts.{cut_as, cut_texts, all_cut_texts}
use Rattle.wt_annotated.specs.GroupData.{group_data}
use Rattle.wt_annotated.specs.Numbering.{next_after, count, count_all, with_id, with_numbers, all_with_numbers, number_of}
use Rattle.wt_annotated.specs.Walked.{Near, near_group, near_runs, walked}
use Rattle.wt_annotated.specs.Nodes.{node_label}
use Rattle.wt_annotated.specs.WithoutCalls.{inside_by}
use Rattle.wt_annotated.proofs.HeldPieces.{item_tree_out}
use Rattle.wt_annotated.proofs.CutNumbered.{nothing_cut}
use Rattle.wt_annotated.proofs.Tiles.{group_leaf}
use Rattle.wt_runs.specs.declared.child.Child.{Child}
use Rattle.wt_ranges.specs.declared.kept.Frame.{Frame}
use Rattle.wt_runs.specs.declared.run.Run.{Run}
use Rattle.wt_runs.specs.Children.{near_of, nears_of, children_at}
use Rattle.wt_ranges.specs.Finished.{IsFinished, AreFinished, with_number}
use Rattle.wt_ranges.specs.Kept.{RunFits, IsFrame}
use Rattle.wt_runs.specs.RunTrees.{run_tree, AreRunsOf}
use Rattle.wt_ranges.proofs.Groupings.{run_size, runs_size}
use Rattle.wt_ranges.proofs.KeptNodes.{inner_kept}

-- ---- one node

inside_of : Tree → Trees
inside_of (tree l ts) = ts

-- a node's own number and those inside
own_and_inside : (n g : Bool) (next m : ℕ) → g ≡ false → cond n (next + 1) next + m ≡ next + (cond n 1 0 + cond g 0 m)
own_and_inside n true next m e = cc
own_and_inside true false next m e = omega arith
own_and_inside false false next m e = omega arith

own_alone : (n g : Bool) (next m : ℕ) → (g ≡ false → m ≡ 0) → cond n (next + 1) next ≡ next + (cond n 1 0 + cond g 0 m)
own_alone true true next m e = omega arith
own_alone false true next m e = omega arith
own_alone true false next m e = omega (arith, e refl)
own_alone false false next m e = omega (arith, e refl)

-- what there is in a group stays, and there is nothing in a leaf
stays : (g : Bool) (x : Texts) (ts ws : Trees) → (g ≡ false → (ts ≡ none) × (ws ≡ none)) → ts ≡ cond g (cond g ts ws) (cut_as x (all_cut_texts (cond g ts ws)))
stays true x ts ws e = refl
stays false x ts ws e = (e refl).0 ∙ sym (ap (λ us. cut_as x (all_cut_texts us)) (e refl).1 ∙ nothing_cut x)

alone_finished : (t u : Tree) (next behind : ℕ) → (is_group (label t).kind ≡ false → inside_of t ≡ none) → u ≡ with_number next t
    → behind ≡ next_after (label t).kind next → IsFinished next t u behind
unfolding inside_of
alone_finished (tree l ts) u next behind h e f = record {
  tree_is =
      e
      ∙ ap (tree (with_id (number_of l.kind next) l))
      (stays (is_group l.kind) (texts_of_kind l.kind) ts (all_with_numbers (next_after l.kind next) ts)
      (λ g. (h g, ap (all_with_numbers (next_after l.kind next)) (h g))));
  next_is = f ∙ own_alone (is_numbered l.kind) (is_group l.kind) next (count_all ts) (λ g. ap count_all (h g));
}

-- ---- leaves and groups

inside_leaf : (is : Bool) (us : Trees) → is ≡ true → inside_by is us ≡ none
inside_leaf true us e = refl
inside_leaf false us e = cc

leaf_empty : (calls : List OuterCall) (c : Child) → is_leaf (out-PieceTree c.tree).head.kind ≡ true → inside_of (near_of calls c).whole ≡ none
unfolding inside_of
leaf_empty calls c e =
    ap (λ t. inside_of (walked calls (group_data calls) c.before c.byte c.after t)) (item_tree_out c.tree)
    ∙ inside_leaf (is_leaf (out-PieceTree c.tree).head.kind) _ e

pub leaf_finished : (calls : List OuterCall) (c : Child) (t u : Tree) (next behind : ℕ) → is_leaf (out-PieceTree c.tree).head.kind ≡ true
    → t ≡ (near_of calls c).whole → u ≡ with_number next t → behind ≡ next_after (label t).kind next → IsFinished next (near_of calls c).whole u behind
leaf_finished calls c t u next behind e s f b =
    alone_finished (near_of calls c).whole u next behind (λ g. leaf_empty calls c e) (f ∙ ap (with_number next) s)
    (b ∙ ap (λ v. next_after (label v).kind next) s)

near_is_group : (calls : List OuterCall) (ns : List Near) → is_group (label (near_group calls (group_data calls) ns)).kind ≡ true
near_is_group calls [] = refl
near_is_group calls (n ∷ ns) = refl

no_group : (g : Bool) (A : Type 0) → g ≡ true → g ≡ false → A
no_group true A e f = cc
no_group false A e f = cc

pub group_finished : (calls : List OuterCall) (ns : List Near) (t u : Tree) (next behind : ℕ) → t ≡ near_group calls (group_data calls) ns
    → u ≡ with_number next t → behind ≡ next_after (label t).kind next → IsFinished next (near_group calls (group_data calls) ns) u behind
group_finished calls ns t u next behind s f b =
    let w : Tree = near_group calls (group_data calls) ns in
    alone_finished w u next behind (no_group (is_group (label w).kind) (inside_of w ≡ none) (near_is_group calls ns)) (f ∙ ap (with_number next) s)
    (b ∙ ap (λ v. next_after (label v).kind next) s)

-- ---- other nodes

round : (g : Bool) (x : Texts) (ts ws : Trees) → g ≡ false
    → cut_as x (all_cut_texts ws) ≡ cond g (cond g ts ws) (cut_as x (all_cut_texts (cond g ts ws)))
round true x ts ws e = cc
round false x ts ws e = refl

inner_finished : (l : Label) (ts us : Trees) (t u : Tree) (next first behind after : ℕ) → is_group l.kind ≡ false → t ≡ tree l ts
    → first ≡ next_after l.kind next → AreFinished first ts us behind → u ≡ with_number next (tree l (cut_as (texts_of_kind l.kind) us)) → after ≡ behind
    → IsFinished next t u after
inner_finished l ts us t u next first behind after g s f a e b = record {
  tree_is =
      e
      ∙ ap (λ (vs : Trees). with_number next (tree l (cut_as (texts_of_kind l.kind) vs)))
      (a.trees_are ∙ ap (λ (n : ℕ). all_cut_texts (all_with_numbers n ts)) f)
      ∙ ap (tree (with_id (number_of l.kind next) l))
      (round (is_group l.kind) (texts_of_kind l.kind) ts (all_with_numbers (next_after l.kind next) ts) g)
      ∙ ap (λ (v : Tree). cut_texts (with_numbers next v)) (sym s);
  next_is =
      b
      ∙ a.next_is
      ∙ ap (λ (n : ℕ). n + count_all ts) f
      ∙ own_and_inside (is_numbered l.kind) (is_group l.kind) next (count_all ts) g
      ∙ ap (λ (v : Tree). next + count v) (sym s);
}

is_no_group : (g is : Bool) → (g ≡ true → is ≡ true) → is ≡ false → g ≡ false
is_no_group true is h e = absurd (let f : true ≡ false = sym (h refl) ∙ e in cc)
is_no_group false is h e = refl

-- the label of a node with this head, in a frame
abbrev framed : Frame → NodeHead → Label
framed f h = node_label (head_of h) (Some f.ranges) (texts_of f.sources.opening) (texts_of f.sources.closing) (texts_of f.sources.own)

pub node_finished : (calls : List OuterCall) (c : Child) (f : Frame) (h : NodeHead) (rs : List Run) (cs : List Child) (us : Trees) (u : Tree)
    (next first behind after : ℕ) → is_leaf (out-PieceTree c.tree).head.kind ≡ false → IsFrame calls c f → h ≡ (out-PieceTree c.tree).head
    → AreRunsOf rs cs → nears_of calls cs ≡ children_at calls f.before f.byte f.after (item_trees (out-PieceTree c.tree).children)
    → first ≡ next_after h.kind next → AreFinished first (trees (map (run_tree calls) rs)) us behind
    → u ≡ with_number next (tree (node_label (head_of h) (Some f.ranges) (texts_of f.sources.opening) (texts_of f.sources.closing)
    (texts_of f.sources.own)) (cut_as (texts_of_kind h.kind) us)) → after ≡ behind → IsFinished next (near_of calls c).whole u after
node_finished calls c f h rs cs us u next first behind after e g i a n j s v b =
    let k : NodeHead = (out-PieceTree c.tree).head in
    let ts : Trees = trees (map (run_tree calls) rs) in
    let whole : tree (framed f k) ts ≡ (near_of calls c).whole =
    inner_kept calls c f ts (tree (framed f k) ts) e g refl (ap trees (a.become calls ∙ ap (near_runs calls (group_data calls)) n)) in
    inner_finished (framed f k) ts us (near_of calls c).whole u next first behind after
    (is_no_group (is_group k.kind) (is_leaf k.kind) (group_leaf k.kind) e) (sym whole) (j ∙ ap (λ (m : NodeHead). next_after m.kind next) i) s
    (v ∙ ap (λ (m : NodeHead). with_number next (tree (framed f m) (cut_as (texts_of_kind m.kind) us))) i) b

-- ---- numbers below 2^32

own_at_most : (n : Bool) (next k : ℕ) → cond n (next + 1) next ≤ next + (cond n 1 0 + k)
own_at_most true next k = omega arith
own_at_most false next k = omega arith

own_room : (t : Tree) (next : ℕ) → next + count t < 2 ^ 32 → next_after (label t).kind next < 2 ^ 32
own_room (tree l ts) next h =
    let k : ℕ = cond (is_group l.kind) 0 (count_all ts) in
    omega (arith, own_at_most (is_numbered l.kind) next k, h)

pub alone_room : (t u : Tree) (next : ℕ) → t ≡ u → next + count u < 2 ^ 32 → next_after (label t).kind next < 2 ^ 32
alone_room t u next e h = let f : count t ≡ count u = ap count e in own_room t next (omega (arith, f, h))

-- a node by its head
pub head_room : (calls : List OuterCall) (c : Child) (h : NodeHead) (next : ℕ) → h ≡ (out-PieceTree c.tree).head
    → next + count (near_of calls c).whole < 2 ^ 32 → next_after h.kind next < 2 ^ 32
head_room calls c h next e room =
    let whole : Tree = (near_of calls c).whole in
    let same : (label whole).kind ≡ h.kind =
    ap (λ t. (label (walked calls (group_data calls) c.before c.byte c.after t)).kind) (item_tree_out c.tree)
    ∙ ap (λ (k : NodeHead). k.kind) (sym e) in
    subst (λ k. next_after k next < 2 ^ 32) same (own_room whole next room)

-- and what is in it
pub inner_room : (calls : List OuterCall) (c : Child) (f : Frame) (rs : List Run) (cs : List Child) (next first : ℕ)
    → is_leaf (out-PieceTree c.tree).head.kind ≡ false → IsFrame calls c f → AreRunsOf rs cs
    → nears_of calls cs ≡ children_at calls f.before f.byte f.after (item_trees (out-PieceTree c.tree).children)
    → first ≡ next_after (out-PieceTree c.tree).head.kind next → next + count (near_of calls c).whole < 2 ^ 32
    → first + count_all (trees (map (run_tree calls) rs)) < 2 ^ 32
inner_room calls c f rs cs next first e g a n i room =
    let k : NodeHead = (out-PieceTree c.tree).head in
    let ts : Trees = trees (map (run_tree calls) rs) in
    let whole : tree (framed f k) ts ≡ (near_of calls c).whole =
    inner_kept calls c f ts (tree (framed f k) ts) e g refl (ap trees (a.become calls ∙ ap (near_runs calls (group_data calls)) n)) in
    let same : count (tree (framed f k) ts) ≡ count (near_of calls c).whole = ap count whole in
    let sum = own_and_inside (is_numbered k.kind) (is_group k.kind) next (count_all ts)
    (is_no_group (is_group k.kind) (is_leaf k.kind) (group_leaf k.kind) e) in
    omega (arith, i, same, sum, room)

-- ---- runs, one after another

abbrev pub finished_list : ℕ → List Tree → List Tree
finished_list next [] = []
finished_list next (t ∷ ts) = cut_texts (with_numbers next t) ∷ finished_list (next + count t) ts

list_is : (next : ℕ) (ts : List Tree) → all_cut_texts (all_with_numbers next (trees ts)) ≡ trees (finished_list next ts)
list_is next [] = refl
list_is next (t ∷ ts) = ap (more (cut_texts (with_numbers next t))) (list_is (next + count t) ts)

-- these are finished, up to this number, and the rest comes next
pub record RunsSoFar (calls : List OuterCall) (done : List Node) (behind : ℕ) (rest : List Run) (next : ℕ) (all : List Run) : Type 0 where
  pub trees_are : map view done ++ finished_list behind (map (run_tree calls) rest) ≡ finished_list next (map (run_tree calls) all)
  pub next_is : behind + count_all (trees (map (run_tree calls) rest)) ≡ next + count_all (trees (map (run_tree calls) all))
  pub fit : AllByRecursion (RunFits calls) rest
  pub size : runs_size rest ≤ runs_size all

pub runs_first : (calls : List OuterCall) (ns : List Node) (next : ℕ) (rs bs : List Run) → ns ≡ [] → rs ≡ bs → AllByRecursion (RunFits calls) bs
    → RunsSoFar calls ns next rs next bs
runs_first calls ns next rs bs e f h = record {
  trees_are =
      ap (λ (ms : List Node). map view ms ++ finished_list next (map (run_tree calls) rs)) e
      ∙ ap (λ (qs : List Run). finished_list next (map (run_tree calls) qs)) f;
  next_is = ap (λ (qs : List Run). next + count_all (trees (map (run_tree calls) qs))) f;
  fit = subst (AllByRecursion (RunFits calls)) (sym f) h;
  size = let s : runs_size rs ≡ runs_size bs = ap runs_size f in omega (arith, s);
}

pub runs_next : (calls : List OuterCall) (done : List Node) (behind next : ℕ) (rs ss all : List Run) (r : Run) → RunsSoFar calls done behind rs next all
    → rs ≡ r ∷ ss → RunFits calls r × (run_size r ≤ runs_size all)
runs_next calls done behind next rs ss all r s e =
    let f : AllByRecursion (RunFits calls) (r ∷ ss) = subst (AllByRecursion (RunFits calls)) e s.fit in
    let w : runs_size rs ≡ run_size r + runs_size ss = ap runs_size e in
    (f.0, omega (arith, w, s.size))

pub runs_room : (calls : List OuterCall) (done : List Node) (behind next : ℕ) (rs ss all : List Run) (r : Run) → RunsSoFar calls done behind rs next all
    → rs ≡ r ∷ ss → next + count_all (trees (map (run_tree calls) all)) < 2 ^ 32 → behind + count (run_tree calls r) < 2 ^ 32
runs_room calls done behind next rs ss all r s e h =
    let f : count_all (trees (map (run_tree calls) rs)) ≡ count (run_tree calls r) + count_all (trees (map (run_tree calls) ss)) =
    ap (λ (qs : List Run). count_all (trees (map (run_tree calls) qs))) e in
    omega (arith, s.next_is, f, h)

pub runs_step : (calls : List OuterCall) (ms us : List Node) (u : Node) (behind after next : ℕ) (rs ss all : List Run) (r : Run)
    → RunsSoFar calls ms behind rs next all → rs ≡ r ∷ ss → IsFinished behind (run_tree calls r) (view u) after → us ≡ ms ++ u ∷ []
    → RunsSoFar calls us after ss next all
runs_step calls ms us u behind after next rs ss all r s e v m =
    let t : RunsSoFar calls ms behind (r ∷ ss) next all = subst (λ (qs : List Run). RunsSoFar calls ms behind qs next all) e s in
    record {
      trees_are =
          ap (λ (xs : List Tree). xs ++ finished_list after (map (run_tree calls) ss)) (ap (map view) m ∙ map-append view ms (u ∷ []))
          ∙ append_assoc (map view ms) (view u ∷ []) (finished_list after (map (run_tree calls) ss))
          ∙ ap (λ (x : Tree). map view ms ++ x ∷ finished_list after (map (run_tree calls) ss)) v.tree_is
          ∙ ap (λ (k : ℕ). map view ms ++ cut_texts (with_numbers behind (run_tree calls r)) ∷ finished_list k (map (run_tree calls) ss)) v.next_is
          ∙ t.trees_are;
      next_is = omega (arith, t.next_is, v.next_is);
      fit = t.fit.1;
      size = omega (arith, t.size);
    }

none_left : (rs : List Run) → length rs ≡ 0 → rs ≡ []
none_left [] e = refl
none_left (r ∷ rs) e = absurd (omega (arith, e))

pub runs_end : (calls : List OuterCall) (ms : List Node) (behind next : ℕ) (rs all : List Run) → RunsSoFar calls ms behind rs next all → length rs ≡ 0
    → AreFinished next (trees (map (run_tree calls) all)) (views ms) behind
runs_end calls ms behind next rs all s l =
    let z : rs ≡ [] = none_left rs l in
    let t : RunsSoFar calls ms behind [] next all = subst (λ (qs : List Run). RunsSoFar calls ms behind qs next all) z s in
    record {
      trees_are = ap trees (sym (append-nil (map view ms)) ∙ t.trees_are) ∙ sym (list_is next (map (run_tree calls) all));
      next_is = omega (arith, t.next_is);
    }
