use Rattle.std.proofs.lemmas.Result.{IfOk-weaker}
use Rattle.wt_span.specs.Items.{is_char_in, items}
use Rattle.wt_expand.specs.Texts.{is_space, without_front}
use Rattle.wt_transclusion.proofs.TrimmedPieces.{front_on, front_found}
use Rattle.wt_transclusion.proofs.trim.all_without_front.Goals as goal

pub loop-i-preserved : goal.loop-i-preserved
loop-i-preserved c =
    front_on c.args.pieces.now c.loop-i.i c.index-pieces-i.result
    (without_front (is_char_in is_space) (items c.args.pieces.now)) c.loop-i-test.true c.index-pieces-i.is
    c.in_default.ensures c.loop-i.invariant

pub returns-in-Some : goal.returns-in-Some
returns-in-Some c =
    IfOk-weaker c.with_first.result _ _ (λ ps is. front_found c.args.pieces.now c.rest_of.result.now ps c.loop-i.i c.index-pieces-i.result c.in-Some.first
    (without_front (is_char_in is_space) (items c.args.pieces.now))
    c.loop-i-test.true c.index-pieces-i.is c.in-Some.ensures c.rest_of.ensures is c.loop-i.invariant
    ) c.with_first.ensures
