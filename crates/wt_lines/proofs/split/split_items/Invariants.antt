use Rattle.std.proofs.Common.{◌≡◌, ◌<◌, ◌++◌, true, take, drop}
use Rattle.std.specs.Prelude.{slice_get}
use Rattle.std.specs.List.{All}
use Rattle.wt_span.specs.Items.{items}
use Rattle.wt_span.specs.Origins.{IsSoundPiece}
use Rattle.wt_lines.specs.Pieces.{begins_char}
use Rattle.wt_lines.proofs.split.split_items.Given as goal

abbrev pub invariant-loop-piece : goal.invariant-loop-piece
invariant-loop-piece l = record {
  front : items l.front ++ take l.left (items (drop l.piece-index l.pieces)) ≡ take l.n (items l.pieces);
  back : items l.back ++ drop l.left (items (drop l.piece-index l.pieces)) ≡ drop l.n (items l.pieces);
  border : 0 < l.left → begins_char (slice_get (items (drop l.piece-index l.pieces)) l.left) ≡ true;
  sound_front : All IsSoundPiece l.front;
  sound_back : All IsSoundPiece l.back;
}
