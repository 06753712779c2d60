use Rattle.std.proofs.Common.{◌≡◌}
use Rattle.wt_lint.specs.Cursors.{IsAt}
use Rattle.wt_lint.proofs.cursor.Cursor.counted.Given as goal

abbrev pub invariant-loop-at : goal.invariant-loop-at
invariant-loop-at l = record {
  at : l.cursor.at ≡ l._at;
  is : IsAt l.page l.cursor.at l.cursor;
}
