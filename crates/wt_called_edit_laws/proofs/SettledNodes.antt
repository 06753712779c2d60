-- A node with a number and at a place is the same node but for these.
use Rattle.std.proofs.Common.{◌≡◌, ℕ, ◌+◌, Bool, true, false, length, refl, sym, ap, ap₂, ◌∙◌}
use Rattle.std.specs.Prelude.{if◌then◌else◌}
use Rattle.wt_tree.specs.Source.{flat}
use Rattle.wt_tree.specs.Tiling.{is_group, HasNoGroup, NoneIsGroup}
use Rattle.wt_tree.specs.Tree.{Tree, tree, Trees, none, more}
use Rattle.wt_annotated.specs.Numbering.{next_after, count}
use Rattle.wt_isolation.specs.OpenTags.{node_ends_open}
use Rattle.wt_part_laws.specs.Placeless.{placeless_label, placeless, all_placeless}
use Rattle.wt_text_edit_laws.proofs.Blocks.Untangled.{open_same}
use Rattle.wt_called_edit_laws.specs.Settled.{settled, all_settled}

inside_gone : (g : Bool) (ts us : Trees) → all_placeless us ≡ all_placeless ts → all_placeless (if g then ts else us) ≡ all_placeless ts
inside_gone true ts us e = refl
inside_gone false ts us e = e

mutual
  pub settled_gone : (n at : ℕ) (t : Tree) → placeless (settled n at t) ≡ placeless t
  settled_gone n at (tree l ts) =
      let m : ℕ = next_after l.kind n in
      let from : ℕ = at + length l.opening in
      ap (tree (placeless_label l)) (inside_gone (is_group l.kind) ts (all_settled m from ts) (all_gone m from ts))

  all_gone : (n at : ℕ) (ts : Trees) → all_placeless (all_settled n at ts) ≡ all_placeless ts
  all_gone n at none = refl
  all_gone n at (more t ts) = ap₂ more (settled_gone n at t) (all_gone (n + count t) (at + length (flat t)) ts)

mutual
  pub placeless_twice : (t : Tree) → placeless (placeless t) ≡ placeless t
  placeless_twice (tree l ts) = ap (tree (placeless_label l)) (all_twice ts)

  all_twice : (ts : Trees) → all_placeless (all_placeless ts) ≡ all_placeless ts
  all_twice none = refl
  all_twice (more t ts) = ap₂ more (placeless_twice t) (all_twice ts)

pub settled_open : (n at : ℕ) (t : Tree) → node_ends_open (settled n at t) ≡ node_ends_open t
settled_open n at t = sym (open_same (settled n at t)) ∙ ap node_ends_open (settled_gone n at t) ∙ open_same t

-- ---- groups

mutual
  pub placeless_groupless : (t : Tree) → HasNoGroup t → HasNoGroup (placeless t)
  placeless_groupless (tree l ts) h = (h.0, all_groupless ts h.1)

  all_groupless : (ts : Trees) → NoneIsGroup ts → NoneIsGroup (all_placeless ts)
  all_groupless none h = tt
  all_groupless (more t ts) h = (placeless_groupless t h.0, all_groupless ts h.1)

inside_groupless : (g : Bool) (ts us : Trees) → NoneIsGroup ts → NoneIsGroup us → NoneIsGroup (if g then ts else us)
inside_groupless true ts us h k = h
inside_groupless false ts us h k = k

mutual
  pub settled_groupless : (n at : ℕ) (t : Tree) → HasNoGroup t → HasNoGroup (settled n at t)
  settled_groupless n at (tree l ts) h =
      let m : ℕ = next_after l.kind n in
      let from : ℕ = at + length l.opening in
      (h.0, inside_groupless (is_group l.kind) ts (all_settled m from ts) h.1 (all_settled_groupless m from ts h.1))

  all_settled_groupless : (n at : ℕ) (ts : Trees) → NoneIsGroup ts → NoneIsGroup (all_settled n at ts)
  all_settled_groupless n at none h = tt
  all_settled_groupless n at (more t ts) h = (settled_groupless n at t h.0, all_settled_groupless (n + count t) (at + length (flat t)) ts h.1)
