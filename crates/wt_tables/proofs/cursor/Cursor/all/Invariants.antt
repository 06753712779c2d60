use Rattle.std.proofs.Common.{◌≡◌, ◌++◌, take}
use Rattle.std.specs.List.{All}
use Rattle.wt_span.specs.Items.{items}
use Rattle.wt_span.specs.Origins.{IsSoundPiece}
use Rattle.wt_tables.specs.Views.{first_items}
use Rattle.wt_tables.proofs.cursor.Cursor.all.Given as goal

abbrev pub invariant-loop-piece : goal.invariant-loop-piece
invariant-loop-piece l = record {
  items_are : items l.out ≡ first_items l.self.first ++ items (take l.piece-index l.self.pieces.now);
  sound : All IsSoundPiece l.out;
}
