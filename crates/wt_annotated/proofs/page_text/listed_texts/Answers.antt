use Rattle.wt_tree.specs.View.{texts_of}
use Rattle.wt_annotated.specs.Pieces.{bytes_if_any, outer_calls}
use Rattle.wt_annotated.proofs.PieceWalks.{bytes_step, call_step}
use Rattle.wt_annotated.proofs.page_text.listed_texts.Goals as goal

pub loop-piece-preserved : goal.loop-piece-preserved
loop-piece-preserved c =
    let ps = c.args.pieces.now in
    let at = c.loop-piece.piece-index in
    let p = c.piece-item.result in
    record {
      texts = bytes_step (outer_calls c.args.calls.now) ps at p c.args.before c.loop-piece.last (texts_of c.loop-piece.texts)
          (texts_of c.push_text.new.texts) (bytes_if_any c.page_text.result) c.loop-piece-test.true c.piece-item.is c.loop-piece.invariant.texts
          c.loop-piece.invariant.last c.page_text.ensures c.in_ok-push_text.ensures;
      last = call_step ps at p c.args.before c.loop-piece.last c.last_of_piece-last.result c.loop-piece-test.true c.piece-item.is c.loop-piece.invariant.last
          c.last_of_piece-last.ensures;
    }
