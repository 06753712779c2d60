use Rattle.std.proofs.Common.{◌≡◌, ◌≤◌, drop}
use Rattle.wt_checks.proofs.Entries.{entries_of}
use Rattle.wt_checks.proofs.unmarked.compared_from.Given as goal

abbrev pub invariant-loop-at : goal.invariant-loop-at
invariant-loop-at l = record {
  later : l.from ≤ l.at;
  same : entries_of (drop l.from l.nodes) ≡ entries_of (drop l.at l.nodes);
}
