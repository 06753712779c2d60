use Rattle.wt_expand.proofs.MadePieces.{made_turn, made_all, made_same}
use Rattle.wt_expand.proofs.page.pieces_of.Goals as goal

pub loop-lexeme-preserved : goal.loop-lexeme-preserved
loop-lexeme-preserved c =
    made_turn c.args.page.now c.loop-lexeme.pieces c.push.new.self c.args.lexemes.now c.loop-lexeme.lexeme-index c.piece_of.result c.lexeme-item.result
    c.in_ok-push.ensures.ok c.loop-lexeme-test.true c.lexeme-item.is c.loop-lexeme.invariant
    (made_same c.args.page.now _ c.piece_of.result c.lexeme-item.result c.new-text.ensures.bytes c.piece_of.ensures)

pub returns : goal.returns
returns c = made_all c.args.page.now c.loop-lexeme.pieces c.args.lexemes.now c.loop-lexeme.lexeme-index c.loop-lexeme-test.false c.loop-lexeme.invariant
