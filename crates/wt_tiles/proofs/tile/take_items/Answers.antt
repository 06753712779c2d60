use Rattle.wt_tiles.specs.Cutting.{rest_pieces}
use Rattle.wt_tiles.proofs.Taking.{front_edge, next_edge, next_front, next_back}
use Rattle.wt_tiles.proofs.tile.take_items.Goals as goal

pub take_piece-requires-clause-edge : goal.take_piece-requires-clause-edge
take_piece-requires-clause-edge c =
    front_edge (rest_pieces c.loop-left.rest) c.in-Some.after.now c.in-Some.piece c.loop-left.left c.in-Some.ensures.value
    c.loop-left-test.true (c.loop-left.invariant.edge c.loop-left-test.true)

pub loop-left-preserved : goal.loop-left-preserved
loop-left-preserved c =
    let before = c.loop-left.invariant in
    let rs = rest_pieces c.loop-left.rest in
    let qs = c.in-Some.after.now in
    let p = c.in-Some.piece in
    let left = c.loop-left.left in
    let k = c.in_ok-next.next.0 in
    let rest = rest_pieces c.in_ok-next.next.1 in
    let e = c.in-Some.ensures.value in
    let is = c.in_ok-next.ensures.left in
    let back = c.in_ok-next.ensures.back in
    record {
      front = next_front c.loop-left.taken c.take_piece.new.taken rs qs rest p left k _ e is back c.in_ok-next.ensures.front before.front;
      back = next_back rs qs rest p left k _ e is back before.back;
      edge = λ pos. next_edge rs qs rest p left k e is back pos (before.edge c.loop-left-test.true);
      sound_front = c.in_ok-next.ensures.sound_front;
      sound_back = c.in_ok-next.ensures.sound_back;
    }
