use Rattle.std.proofs.Common.{◌≡◌, ◌≤◌, length}
use Rattle.wt_functions.specs.Choice.{last_default}
use Rattle.wt_functions.proofs.chooser.last_default.Given as goal

abbrev pub invariant-loop-part : goal.invariant-loop-part
invariant-loop-part l = record {
  behind_has_none : last_default l.equals l.texts l.part ≡ last_default l.equals l.texts (length l.equals);
  within : l.part ≤ length l.equals;
}

abbrev pub decreases-loop-part : goal.decreases-loop-part
decreases-loop-part l = l.part
