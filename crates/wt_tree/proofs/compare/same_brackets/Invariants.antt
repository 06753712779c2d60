use Rattle.std.proofs.Common.{◌≡◌, length, drop}
use Rattle.wt_tree.specs.Shown.{brackets_of}
use Rattle.wt_tree.proofs.compare.same_brackets.Given as goal

-- the two lists are the same exactly where what is left of them is
abbrev pub invariant-loop-at : goal.invariant-loop-at
invariant-loop-at l = record {
  long : length l.a ≡ length l.b;
  on : brackets_of l.a ≡ brackets_of l.b → brackets_of (drop l.at l.a) ≡ brackets_of (drop l.at l.b);
  back : brackets_of (drop l.at l.a) ≡ brackets_of (drop l.at l.b) → brackets_of l.a ≡ brackets_of l.b;
}
