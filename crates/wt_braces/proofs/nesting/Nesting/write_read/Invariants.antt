use Rattle.std.proofs.Common.{◌≡◌, ◌≤◌, ◌^◌, length}
use Rattle.wt_braces.specs.Nested.{settled, AreFew}
use Rattle.wt_braces.proofs.nesting.Nesting.write_read.Given as goal

abbrev pub invariant-loop-left : goal.invariant-loop-left
invariant-loop-left l = record {
  few : AreFew l.self.begun;
  number : length l.self.begun ≤ 2 ^ 30;
  same : settled l.left l.self.begun l.self.written l.self.deep ≡ settled l.fn.left l.fn.self.begun l.fn.self.written l.fn.self.deep;
}

abbrev pub decreases-loop-left : goal.decreases-loop-left
decreases-loop-left l = length l.self.begun
