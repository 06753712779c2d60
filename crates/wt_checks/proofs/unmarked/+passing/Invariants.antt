use Rattle.std.proofs.Common.{◌≤◌, length}
use Rattle.wt_checks.proofs.Passing.{PassedUpTo}
use Rattle.wt_checks.proofs.unmarked.+passing.Given as goal

abbrev pub invariant-behind_all_same-loop-node : goal.invariant-behind_all_same-loop-node
invariant-behind_all_same-loop-node l = record {
  within : l.at ≤ length l.edited;
  passed : PassedUpTo l.page l.edited l.fn.from l.node-index l.at;
}
