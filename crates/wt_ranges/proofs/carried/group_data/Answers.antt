use Rattle.std.proofs.Common.{arith}
use Rattle.wt_ranges.specs.DataSoFar.{nothing_found}
use Rattle.wt_annotated.specs.Pieces.{outer_calls}
use Rattle.wt_ranges.proofs.CarriedParts.{found_all, goes_on}
use Rattle.wt_ranges.proofs.CarriedNumbers.{number_more, room_here}
use Rattle.wt_annotated.proofs.PieceWalks.{call_step}
use Rattle.wt_ranges.proofs.carried.group_data.Goals as goal

pub loop-piece-preserved : goal.loop-piece-preserved
loop-piece-preserved c =
    let ps = c.args.pieces.now in
    let at = c.loop-piece.piece-index in
    let p = c.piece-item.result in
    record {
      found = goes_on (outer_calls c.args.calls.now) ps at p c.args.before c.loop-piece.last nothing_found c.loop-piece.found c.in_ok-found.found
          c.loop-piece-test.true c.piece-item.is c.loop-piece.invariant.found c.loop-piece.invariant.last c.in_ok-found.ensures.parts;
      number = number_more (outer_calls c.args.calls.now) ps at p c.args.before c.loop-piece.last c.loop-piece.found.number c.in_ok-found.found.number
          c.loop-piece-test.true c.piece-item.is c.loop-piece.invariant.last c.loop-piece.invariant.number c.in_ok-found.ensures.number;
      last = call_step ps at p c.args.before c.loop-piece.last c.last_of_piece-last.result c.loop-piece-test.true c.piece-item.is c.loop-piece.invariant.last
          c.last_of_piece-last.ensures;
    }

pub with_piece-requires-clause-room : goal.with_piece-requires-clause-room
with_piece-requires-clause-room c =
    room_here (outer_calls c.args.calls.now) c.args.pieces.now c.loop-piece.piece-index c.piece-item.result c.args.before c.loop-piece.last
    c.loop-piece.found.number c.loop-piece-test.true c.piece-item.is c.loop-piece.invariant.last c.loop-piece.invariant.number c.requires.few

pub returns : goal.returns
returns c =
    found_all (outer_calls c.args.calls.now) c.args.pieces.now c.loop-piece.piece-index c.args.before c.loop-piece.found
    (omega (arith, c.loop-piece-test.false)) c.loop-piece.invariant.found
