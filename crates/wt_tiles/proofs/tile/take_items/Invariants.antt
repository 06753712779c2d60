use Rattle.std.proofs.Common.{◌≡◌, ◌<◌, ◌++◌, take, drop}
use Rattle.std.specs.List.{All}
use Rattle.wt_span.specs.Items.{items}
use Rattle.wt_span.specs.Origins.{IsSoundPiece}
use Rattle.wt_tiles.specs.Cutting.{rest_pieces, IsEdgeIn}
use Rattle.wt_tiles.proofs.tile.take_items.Given as goal

abbrev pub invariant-loop-left : goal.invariant-loop-left
invariant-loop-left l = record {
  front : items l.taken ++ take l.left (items (rest_pieces l.rest)) ≡ take l.n (items (rest_pieces l.pieces));
  back : drop l.left (items (rest_pieces l.rest)) ≡ drop l.n (items (rest_pieces l.pieces));
  edge : 0 < l.left → IsEdgeIn (items (rest_pieces l.rest)) l.left;
  sound_front : All IsSoundPiece l.taken;
  sound_back : All IsSoundPiece (rest_pieces l.rest);
}

abbrev pub decreases-loop-left : goal.decreases-loop-left
decreases-loop-left l = l.left
