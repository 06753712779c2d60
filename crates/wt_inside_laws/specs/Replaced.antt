-- A page's tree in which the inside of a block was replaced: all else is as it was, moved and numbered anew after the block.
use Rattle.std.specs.Prelude.{ℕ, ◌+◌, ◌-◌, ◌==◌, nat_lt, nat_le, Option, Some, None, List, [], ◌∷◌, if◌then◌else◌}
use Rattle.wt_tree.specs.declared.kind.Ranges.{Ranges}
use Rattle.wt_tree.specs.Tiling.{is_group}
use Rattle.wt_tree.specs.Tree.{Label, Tree, tree, Trees, none, more}

-- The block by its number, what it holds now with the places and numbers that this has now, the byte after the block before and
-- now, and the last number in it before and now (its own where nothing in it has one).
pub record Edit : Type 0 where
  pub number : ℕ
  pub inside : Trees
  pub old_end : ℕ
  pub new_end : ℕ
  pub old_last : ℕ
  pub new_last : ℕ

-- A place after the block stays as far after it.
abbrev pub moved : Edit → ℕ → ℕ
moved e at = if nat_le e.old_end at then e.new_end + (at - e.old_end) else at

-- A number after the last one in the block stays as far after it.
abbrev pub renumbered : Edit → ℕ → ℕ
renumbered e n = if nat_lt e.old_last n then e.new_last + (n - e.old_last) else n

-- A range before the block stays, one after it moves, and one round it grows.
abbrev pub moved_range : Edit → Option Ranges → Option Ranges
moved_range e None = None
moved_range e (Some r) = Some (record { start = moved e r.start; end = moved e r.end; open_w = r.open_w; close_w = r.close_w })

abbrev pub moved_label : Edit → Label → Label
moved_label e l = record l { id = renumbered e l.id; ranges = moved_range e l.ranges }

-- what a group shows has neither places nor numbers
abbrev mutual
  pub with_inside : Edit → Tree → Tree
  with_inside e (tree l ts) =
      tree (moved_label e l) (if l.id == e.number then e.inside else (if is_group l.kind then ts else all_with_inside e ts))

  pub all_with_inside : Edit → Trees → Trees
  all_with_inside e none = none
  all_with_inside e (more t ts) = more (with_inside e t) (all_with_inside e ts)

-- The last block first, so that each edit is stated by the page before it: what comes before a block doesn't move.
abbrev pub with_insides : List Edit → Tree → Tree
with_insides [] t = t
with_insides (e ∷ es) t = with_inside e (with_insides es t)
