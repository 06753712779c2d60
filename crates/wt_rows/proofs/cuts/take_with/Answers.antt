use Rattle.std.proofs.Common.{arith}
use Rattle.wt_tiles.specs.Cutting.{rest_pieces}
use Rattle.wt_rows.proofs.FrontCuts.{takes_no_more, takes_edge, takes_part, takes_whole}
use Rattle.wt_rows.proofs.cuts.take_with.Goals as goal

pub returns-then-own-eq0-clause-front : goal.returns-then-own-eq0-clause-front
returns-then-own-eq0-clause-front c =
    (takes_no_more c.args.front c.loop-piece.left c.len_with-own.result c.loop-piece.taken (rest_pieces c.loop-piece.rest) c.in-Some.after.now
    c.in-Some.piece _ _ c.in-Some.ensures.value c.in-Some.ensures.sound.0 c.len_with-own.ensures c.if-own-eq0.true c.loop-piece.invariant.takes).0

pub returns-then-own-eq0-clause-back : goal.returns-then-own-eq0-clause-back
returns-then-own-eq0-clause-back c =
    (takes_no_more c.args.front c.loop-piece.left c.len_with-own.result c.loop-piece.taken (rest_pieces c.loop-piece.rest) c.in-Some.after.now
    c.in-Some.piece _ _ c.in-Some.ensures.value c.in-Some.ensures.sound.0 c.len_with-own.ensures c.if-own-eq0.true c.loop-piece.invariant.takes).1

pub take_piece-requires-clause-edge : goal.take_piece-requires-clause-edge
take_piece-requires-clause-edge c =
    takes_edge c.args.front c.loop-piece.left c.len_with-own.result (rest_pieces c.loop-piece.rest) c.in-Some.after.now c.in-Some.piece
    c.in-Some.ensures.value c.len_with-own.ensures (omega (arith, c.if-own-eq0.false)) c.loop-piece.invariant.takes.edge

pub returns-then-own-count-clause-front : goal.returns-then-own-count-clause-front
returns-then-own-count-clause-front c =
    (takes_part c.args.front c.loop-piece.left c.len_with-own.result c.loop-piece.taken c.take_piece.new.taken (rest_pieces c.loop-piece.rest)
    c.in-Some.after.now (rest_pieces c.in_ok-next.next.1) c.in-Some.piece _ _ c.in-Some.ensures.value c.len_with-own.ensures
    (omega (arith, c.if-own-count.true, c.item_count-count.ensures)) c.in_ok-next.ensures.front c.in_ok-next.ensures.back c.loop-piece.invariant.takes).0

pub returns-then-own-count-clause-back : goal.returns-then-own-count-clause-back
returns-then-own-count-clause-back c =
    (takes_part c.args.front c.loop-piece.left c.len_with-own.result c.loop-piece.taken c.take_piece.new.taken (rest_pieces c.loop-piece.rest)
    c.in-Some.after.now (rest_pieces c.in_ok-next.next.1) c.in-Some.piece _ _ c.in-Some.ensures.value c.len_with-own.ensures
    (omega (arith, c.if-own-count.true, c.item_count-count.ensures)) c.in_ok-next.ensures.front c.in_ok-next.ensures.back c.loop-piece.invariant.takes).1

pub loop-piece-preserved : goal.loop-piece-preserved
loop-piece-preserved c = record {
  takes = takes_whole c.args.front c.loop-piece.left c.len_with-own.result c.saturating_sub-left.result c.loop-piece.taken c.take_piece.new.taken
      (rest_pieces c.loop-piece.rest) c.in-Some.after.now (rest_pieces c.in_ok-next.next.1) c.in-Some.piece _ _ c.in-Some.ensures.value
      c.len_with-own.ensures (omega (arith, c.if-own-count.false, c.item_count-count.ensures))
      (omega (arith, c.saturating_sub-left.ensures, c.item_count-count.ensures)) c.in_ok-next.ensures.front c.in_ok-next.ensures.back
      c.loop-piece.invariant.takes;
  sound_front = c.in_ok-next.ensures.sound_front;
  sound_back = c.in_ok-next.ensures.sound_back;
}
