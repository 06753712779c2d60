use Rattle.std.proofs.Common.{◌<◌, ◌^◌, length}
use Rattle.std.specs.List.{All}
use Rattle.wt_span.specs.Items.{items, sources}
use Rattle.wt_span.specs.Origins.{IsSoundPiece}
use Rattle.wt_inline.specs.Grown.{growth}
use Rattle.wt_rows.specs.Unread.{left}
use Rattle.wt_build.specs.Carrying.{Carries}
use Rattle.wt_build.proofs.body.build_pieces.Given as goal

abbrev pub invariant-loop-rest : goal.invariant-loop-rest
invariant-loop-rest l = record {
  sound : All IsSoundPiece (left l.rest);
  few : length (sources (items (left l.rest))) < 2 ^ 32;
  carries : Carries (growth l.initial.children) (items l.pieces) (growth l.children) (items (left l.rest));
}

abbrev pub decreases-loop-rest : goal.decreases-loop-rest
decreases-loop-rest l = length (items (left l.rest))
