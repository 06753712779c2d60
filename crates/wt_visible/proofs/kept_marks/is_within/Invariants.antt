use Rattle.std.proofs.Common.{◌≤◌, length, drop}
use Rattle.wt_visible.proofs.Within.{Same}
use Rattle.wt_visible.proofs.kept_marks.is_within.Given as goal

abbrev pub invariant-loop-source : goal.invariant-loop-source
invariant-loop-source l = record {
  within : l.found ≤ length l.kept;
  same : Same l.kept l.there (drop l.found l.kept) (drop l.source-index l.there);
}
