use Rattle.std.proofs.Common.{◌≡◌, drop}
use Rattle.wt_tables.specs.Views.{waiting, AreSound, IsLowCut}
use Rattle.wt_tables.proofs.cursor.Cursor.skip.Given as goal

abbrev pub invariant-loop-left : goal.invariant-loop-left
invariant-loop-left l = record {
  back : drop l.left (waiting l.cursor) ≡ drop l.n (waiting l.self);
  low : IsLowCut l.left (waiting l.cursor);
  sound : AreSound l.cursor;
}

abbrev pub decreases-loop-left : goal.decreases-loop-left
decreases-loop-left l = l.left
