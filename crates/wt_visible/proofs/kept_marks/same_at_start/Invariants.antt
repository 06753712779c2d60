use Rattle.std.proofs.Common.{◌≡◌, ◌≤◌, length, take}
use Rattle.wt_visible.proofs.kept_marks.same_at_start.Given as goal

abbrev pub invariant-loop-at : goal.invariant-loop-at
invariant-loop-at l = record {
  others : l.at ≤ length l.others;
  same : take l.at l.texts ≡ take l.at l.others;
}
