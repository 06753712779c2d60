use Rattle.std.proofs.Common.{◌+◌, ◌-◌, ◌/◌, map, sym, subst, arith}
use Rattle.wt_span.specs.declared.form.Piece.{Piece}
use Rattle.wt_span.specs.Origins.{IsAmong, outer_call}
use Rattle.wt_isolation.proofs.SlicedPieces.{named_at}
use Rattle.wt_isolation.proofs.group_items.first_piece.Goals as goal

pub place_of-requires : goal.place_of-requires
place_of-requires c =
    let cs = map outer_call c.args.outer.now in
    let low = c.loop-low.low in
    let high = c.loop-low.high in
    let a = c.loop-low.invariant.0 in
    let b = c.loop-low.invariant.1 in
    let t = c.loop-low-test.true in
    subst (λ (q : Piece). IsAmong cs q.origin) (sym c.index-pieces-middle.is)
    (named_at cs c.args.pieces.now (low + (high - low) / 2) c.index-pieces-middle.result c.requires (omega (arith, a, b, t)))
