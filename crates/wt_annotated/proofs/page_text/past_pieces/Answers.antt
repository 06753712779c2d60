use Rattle.std.proofs.Common.{◌+◌, drop, sym, ap, ◌∙◌}
use Rattle.std.proofs.lemmas.List.{drop_all}
use Rattle.wt_span.specs.Items.{items, items_of}
use Rattle.wt_annotated.specs.Pieces.{outer_calls}
use Rattle.wt_annotated.specs.Progress.{past}
use Rattle.wt_annotated.proofs.PieceWalks.{items_turn}
use Rattle.wt_annotated.proofs.Progresses.{past_fits, past_more, past_none}
use Rattle.wt_annotated.proofs.page_text.past_pieces.Goals as goal

pub past_piece-at-requires : goal.past_piece-at-requires
past_piece-at-requires c =
    let ps = c.args.pieces.now in
    let i = c.loop-piece.piece-index in
    let p = c.piece-item.result in
    past_fits (outer_calls c.args.calls.now) c.loop-piece.at c.args.from (items (drop i ps)) (items_of p) (items (drop (i + 1) ps)) (items ps)
    (items_turn ps i p c.loop-piece-test.true c.piece-item.is) c.loop-piece.invariant c.requires

pub loop-piece-preserved : goal.loop-piece-preserved
loop-piece-preserved c =
    let ps = c.args.pieces.now in
    let i = c.loop-piece.piece-index in
    let p = c.piece-item.result in
    past_more (outer_calls c.args.calls.now) c.loop-piece.at c.args.from c.past_piece-at.result (items (drop i ps)) (items_of p) (items (drop (i + 1) ps))
    (items ps) (items_turn ps i p c.loop-piece-test.true c.piece-item.is) c.loop-piece.invariant c.past_piece-at.ensures

pub returns : goal.returns
returns c =
    let ps = c.args.pieces.now in
    let calls = outer_calls c.args.calls.now in
    sym (past_none calls c.loop-piece.at)
    ∙ ap (λ qs. past calls c.loop-piece.at (items qs)) (sym (drop_all c.loop-piece.piece-index ps c.loop-piece-test.false))
    ∙ c.loop-piece.invariant
