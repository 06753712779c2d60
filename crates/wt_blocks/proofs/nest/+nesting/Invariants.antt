use Rattle.std.proofs.Common.{◌≡◌, ◌+◌, ◌-◌, ◌*◌, ◌++◌, ◌≤◌, length, drop}
use Rattle.wt_blocks.specs.Nesting.{items_by, lists}
use Rattle.wt_blocks.specs.Slices.{lines_from}
use Rattle.wt_blocks.specs.View.{list_trees}
use Rattle.wt_blocks.proofs.nest.+nesting.Given as goal

abbrev pub decreases-items_at : goal.decreases-items_at
decreases-items_at l = (32 - l.depth) * 2

abbrev pub decreases-lists_at : goal.decreases-lists_at
decreases-lists_at l = (32 - l.depth) * 2 + 1

abbrev pub invariant-items_at-loop-at : goal.invariant-items_at-loop-at
invariant-items_at-loop-at l = record {
  within : l.at ≤ length l.prefixes;
  rest : list_trees l.found ++ items_by (lists (32 - (l.depth + 1))) (lines_from (l.first + l.at) l.depth (drop l.at l.prefixes))
      ≡ items_by (lists (32 - (l.depth + 1))) (lines_from l.first l.depth l.prefixes);
}

abbrev pub decreases-items_at-loop-at : goal.decreases-items_at-loop-at
decreases-items_at-loop-at l = length l.prefixes - l.at

abbrev pub invariant-lists_at-loop-at : goal.invariant-lists_at-loop-at
invariant-lists_at-loop-at l = record {
  within : l.at ≤ length l.prefixes;
  rest : list_trees l.found ++ lists (32 - l.depth) (lines_from (l.first + l.at) l.depth (drop l.at l.prefixes))
      ≡ lists (32 - l.depth) (lines_from l.first l.depth l.prefixes);
}

abbrev pub decreases-lists_at-loop-at : goal.decreases-lists_at-loop-at
decreases-lists_at-loop-at l = length l.prefixes - l.at
