use Rattle.std.proofs.Common.{◌≡◌, ◌≤◌, ◌+◌, ◌^◌, [], None, length, map, reverse}
use Rattle.wt_braces.specs.Views.{closed_at}
use Rattle.wt_braces.specs.Nested.{ordered, AreFew}
use Rattle.wt_braces.proofs.nesting.write_all.Given as goal

abbrev pub invariant-loop-call : goal.invariant-loop-call
invariant-loop-call l = record {
  few : AreFew l.nesting.begun;
  few_left : AreFew l.left;
  number : length l.nesting.begun + length l.left ≤ 2 ^ 30;
  same : ordered l.left l.nesting ≡ ordered (reverse (map closed_at l.fn.closed.items)) (record { begun = []; written = []; deep = None });
}

abbrev pub decreases-loop-call : goal.decreases-loop-call
decreases-loop-call l = length l.left
