use Rattle.std.proofs.Common.{◌-◌, ◌≤◌, length}
use Rattle.wt_places.specs.Piles.{above}
use Rattle.wt_places.proofs.in_turn.above.Given as goal

abbrev pub invariant-loop-low : goal.invariant-loop-low
invariant-loop-low l = record {
  below : l.low ≤ above l.number l.numbers;
  till : above l.number l.numbers ≤ l.high;
  within : l.high ≤ length l.numbers;
}

abbrev pub decreases-loop-low : goal.decreases-loop-low
decreases-loop-low l = l.high - l.low
