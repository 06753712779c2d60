use Rattle.std.proofs.Common.{◌≡◌, length, take, drop}
use Rattle.wt_checks.specs.Ids.{is_moved}
use Rattle.wt_checks.specs.Places.{first, first_after}
use Rattle.wt_checks.specs.View.{all_seen, indexed}
use Rattle.wt_checks.proofs.Moved.{Greatest}
use Rattle.wt_checks.proofs.ids.first_moved.Given as goal

abbrev pub invariant-loop-visit : goal.invariant-loop-visit
invariant-loop-visit l = record {
  long : length l.greatest.items ≡ length l.index;
  greatest : Greatest l.greatest.items (all_seen (take l.visit-index l.edited));
  left : first (is_moved (indexed l.index)) (all_seen l.edited)
      ≡ first_after (is_moved (indexed l.index)) (all_seen (take l.visit-index l.edited)) (all_seen (drop l.visit-index l.edited));
}
