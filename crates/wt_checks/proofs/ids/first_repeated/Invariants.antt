use Rattle.std.proofs.Common.{◌≡◌, ◌≤◌, length, drop}
use Rattle.wt_checks.specs.View.{all_seen}
use Rattle.wt_checks.proofs.Repeated.{Noted, first_again}
use Rattle.wt_checks.proofs.ids.first_repeated.Given as goal

abbrev pub invariant-loop-at : goal.invariant-loop-at
invariant-loop-at l = record {
  within : l.at ≤ length l.edited;
  long : length l.noted.items ≡ l.size;
  noted : Noted l.noted.items (all_seen (drop l.at l.edited));
  found : l.found ≡ first_again (all_seen (drop l.at l.edited));
}

abbrev pub decreases-loop-at : goal.decreases-loop-at
decreases-loop-at l = l.at
