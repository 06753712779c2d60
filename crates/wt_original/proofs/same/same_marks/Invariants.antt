use Rattle.std.proofs.Common.{◌≡◌, length, drop}
use Rattle.wt_original.specs.PageViews.{marks_of}
use Rattle.wt_original.proofs.same.same_marks.Given as goal

-- the two lists are the same exactly where what is left of them is
abbrev pub invariant-loop-at : goal.invariant-loop-at
invariant-loop-at l = record {
  long : length l.a ≡ length l.b;
  on : marks_of l.a ≡ marks_of l.b → marks_of (drop l.at l.a) ≡ marks_of (drop l.at l.b);
  back : marks_of (drop l.at l.a) ≡ marks_of (drop l.at l.b) → marks_of l.a ≡ marks_of l.b;
}
