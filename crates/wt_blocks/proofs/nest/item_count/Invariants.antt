use Rattle.std.proofs.Common.{◌≤◌}
use Rattle.wt_blocks.proofs.nest.item_count.Given as goal

abbrev pub invariant-loop-i : goal.invariant-loop-i
invariant-loop-i l = l.count ≤ l.i
