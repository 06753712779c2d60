-- Leaves and frames, node by node.
use Rattle.std.proofs.Common.{◌≡◌, ◌↔◌, ℕ, Bool, true, false, List, [], ◌∷◌, ◌++◌, refl}
use Rattle.std.specs.Prelude.{if◌then◌else◌}
use Rattle.std.specs.List.{AllByRecursion}
use Rattle.wt_checks.specs.PutBack.{is_frame}
use Rattle.wt_selser.specs.Leaves.{HoldsNoFrame, NoneIsFrame, LeavesHoldNoNumber, AllLeavesHoldNoNumber}
use Rattle.wt_tree.specs.Kinds.{is_leaf}
use Rattle.wt_tree.specs.Tiling.{ids, ids_of_all}
use Rattle.wt_tree.specs.Tree.{Tree, tree, Trees, none, more, label, subtrees, subtrees_of_all}
use Rattle.wt_typed_blocks.specs.Below.{IsUnnumberedInside, outside_leaves, all_outside_leaves, below}

join : (A : Type 0) (P : A → Type 0) (xs ys : List A) → AllByRecursion P xs → AllByRecursion P ys → AllByRecursion P (xs ++ ys)
join A P [] ys h g = g
join A P (x ∷ xs) ys h g = (h.0, join A P xs ys h.1 g)

part : (A : Type 0) (P : A → Type 0) (xs ys : List A) → AllByRecursion P (xs ++ ys) → AllByRecursion P xs × AllByRecursion P ys
part A P [] ys h = (tt, h)
part A P (x ∷ xs) ys h = let p = part A P xs ys h.1 in ((h.0, p.0), p.1)

-- ---- numbers

abbrev IsZero : ℕ → Type 0
IsZero n = n ≡ 0

abbrev HasNone : Tree → Type 0
HasNone u = (label u).id ≡ 0

mutual
  no_ids : (t : Tree) → AllByRecursion IsZero (ids t) → AllByRecursion HasNone (subtrees t)
  no_ids (tree l ts) h = (h.0, no_ids_of_all ts h.1)

  no_ids_of_all : (ts : Trees) → AllByRecursion IsZero (ids_of_all ts) → AllByRecursion HasNone (subtrees_of_all ts)
  no_ids_of_all none h = tt
  no_ids_of_all (more t ts) h =
      let p = part ℕ IsZero (ids t) (ids_of_all ts) h in join Tree HasNone (subtrees t) (subtrees_of_all ts) (no_ids t p.0) (no_ids_of_all ts p.1)

mutual
  ids_none : (t : Tree) → AllByRecursion HasNone (subtrees t) → AllByRecursion IsZero (ids t)
  ids_none (tree l ts) h = (h.0, all_ids_none ts h.1)

  all_ids_none : (ts : Trees) → AllByRecursion HasNone (subtrees_of_all ts) → AllByRecursion IsZero (ids_of_all ts)
  all_ids_none none h = tt
  all_ids_none (more t ts) h =
      let p = part Tree HasNone (subtrees t) (subtrees_of_all ts) h in join ℕ IsZero (ids t) (ids_of_all ts) (ids_none t p.0) (all_ids_none ts p.1)

mutual
  each : (t : Tree) → LeavesHoldNoNumber t → AllByRecursion IsUnnumberedInside (subtrees t)
  each (tree l ts) h = (λ e. no_ids_of_all ts (h.0 e), each_of_all ts h.1)

  each_of_all : (ts : Trees) → AllLeavesHoldNoNumber ts → AllByRecursion IsUnnumberedInside (subtrees_of_all ts)
  each_of_all none h = tt
  each_of_all (more t ts) h = join Tree IsUnnumberedInside (subtrees t) (subtrees_of_all ts) (each t h.0) (each_of_all ts h.1)

mutual
  of_each : (t : Tree) → AllByRecursion IsUnnumberedInside (subtrees t) → LeavesHoldNoNumber t
  of_each (tree l ts) h = (λ e. all_ids_none ts (h.0 e), all_of_each ts h.1)

  all_of_each : (ts : Trees) → AllByRecursion IsUnnumberedInside (subtrees_of_all ts) → AllLeavesHoldNoNumber ts
  all_of_each none h = tt
  all_of_each (more t ts) h =
      let p = part Tree IsUnnumberedInside (subtrees t) (subtrees_of_all ts) h in (of_each t p.0, all_of_each ts p.1)

pub leaves_each : (t : Tree) → (LeavesHoldNoNumber t) ↔ (AllByRecursion IsUnnumberedInside (subtrees t))
leaves_each t = (each t, of_each t)

-- ---- frames

abbrev IsNone : Tree → Type 0
IsNone u = is_frame (label u).kind ≡ false

-- what holds of a list, if a test fails
if_not : (leaf : Bool) (us : List Tree) → (leaf ≡ false → AllByRecursion IsNone us) → AllByRecursion IsNone (if leaf then [] else us)
if_not true us h = tt
if_not false us h = h refl

not_if : (leaf : Bool) (us : List Tree) → AllByRecursion IsNone (if leaf then [] else us) → leaf ≡ false → AllByRecursion IsNone us
not_if true us h e = cc
not_if false us h e = h

mutual
  frames : (t : Tree) → HoldsNoFrame t → AllByRecursion IsNone (below t)
  frames (tree l ts) h = if_not (is_leaf l.kind) (all_outside_leaves ts) (λ e. all_frames ts (h e))

  all_frames : (ts : Trees) → NoneIsFrame ts → AllByRecursion IsNone (all_outside_leaves ts)
  all_frames none h = tt
  all_frames (more (tree l us) ts) h =
      join Tree IsNone (outside_leaves (tree l us)) (all_outside_leaves ts) (h.0, frames (tree l us) h.1) (all_frames ts h.2)

mutual
  of_frames : (t : Tree) → AllByRecursion IsNone (below t) → HoldsNoFrame t
  of_frames (tree l ts) h = λ e. all_of_frames ts (not_if (is_leaf l.kind) (all_outside_leaves ts) h e)

  all_of_frames : (ts : Trees) → AllByRecursion IsNone (all_outside_leaves ts) → NoneIsFrame ts
  all_of_frames none h = tt
  all_of_frames (more (tree l us) ts) h =
      let p = part Tree IsNone (outside_leaves (tree l us)) (all_outside_leaves ts) h in (p.0.0, of_frames (tree l us) p.0.1, all_of_frames ts p.1)

pub frames_each : (t : Tree) → (HoldsNoFrame t) ↔ (AllByRecursion IsNone (below t))
frames_each t = (frames t, of_frames t)
