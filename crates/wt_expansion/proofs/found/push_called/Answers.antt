use Rattle.wt_expansion.proofs.FoundLaws.{appends_then}
use Rattle.wt_expansion.proofs.found.push_called.Goals as goal

pub loop-piece-preserved : goal.loop-piece-preserved
loop-piece-preserved c =
    appends_then c.args.number c.loop-piece.piece-index c.args.given.now _ c.loop-piece.pieces.items c.push_one.new.pieces.items c.piece-item.result
    c.loop-piece-test.true c.piece-item.is c.loop-piece.invariant c.in_ok-push_one.ensures
