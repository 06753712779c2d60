use Rattle.std.proofs.Common.{◌++◌, take, drop, length}
use Rattle.std.specs.List.{All}
use Rattle.wt_span.specs.Items.{items}
use Rattle.wt_span.specs.Origins.{IsSoundPiece}
use Rattle.wt_tiles.specs.Cutting.{rest_pieces}
use Rattle.wt_rows.specs.Fronts.{with_front}
use Rattle.wt_rows.proofs.FrontCuts.{Takes}
use Rattle.wt_rows.proofs.cuts.take_with.Given as goal

abbrev pub invariant-loop-piece : goal.invariant-loop-piece
invariant-loop-piece l = record {
  takes : Takes l.front l.left l.taken (rest_pieces l.rest)
      (items l.initial.taken ++ take (with_front l.front l.n (items (rest_pieces l.pieces))) (items (rest_pieces l.pieces)))
      (drop (with_front l.front l.n (items (rest_pieces l.pieces))) (items (rest_pieces l.pieces)));
  sound_front : All IsSoundPiece l.taken;
  sound_back : All IsSoundPiece (rest_pieces l.rest);
}

abbrev pub decreases-loop-piece : goal.decreases-loop-piece
decreases-loop-piece l = length (items (rest_pieces l.rest))
