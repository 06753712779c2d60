use Rattle.std.proofs.Common.{◌≡◌, ◌++◌, take, drop}
use Rattle.std.specs.List.{All}
use Rattle.wt_span.specs.Items.{items}
use Rattle.wt_span.specs.Origins.{IsSoundPiece}
use Rattle.wt_tables.specs.Views.{waiting, AreSound, IsLowCut}
use Rattle.wt_tables.proofs.cursor.Cursor.take.Given as goal

abbrev pub invariant-loop-left : goal.invariant-loop-left
invariant-loop-left l = record {
  front : items l.out ++ take l.left (waiting l.cursor) ≡ take l.n (waiting l.self);
  back : drop l.left (waiting l.cursor) ≡ drop l.n (waiting l.self);
  low : IsLowCut l.left (waiting l.cursor);
  sound_out : All IsSoundPiece l.out;
  sound : AreSound l.cursor;
}

abbrev pub decreases-loop-left : goal.decreases-loop-left
decreases-loop-left l = l.left
