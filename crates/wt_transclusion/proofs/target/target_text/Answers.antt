use Rattle.std.proofs.Common.{subst}
use Rattle.wt_span.specs.Items.{items}
use Rattle.wt_expand.specs.Texts.{target_text}
use Rattle.wt_transclusion.specs.Target.{PushesTarget}
use Rattle.wt_transclusion.proofs.TargetTexts.{target_next, target_stops}
use Rattle.wt_transclusion.proofs.target.target_text.Goals as goal

pub loop-piece-preserved : goal.loop-piece-preserved
loop-piece-preserved c =
    let l = c.loop-piece in
    target_next c.args.pieces.now l.piece-index c.piece-item.result l.text c.push_target.new.text
    (target_text (items c.args.pieces.now)) c.loop-piece-test.true c.piece-item.is
    (subst (PushesTarget c.piece-item.result l.text c.push_target.new.text) c.if-not-branch.false c.in_ok-push_target.ensures) l.invariant

pub returns-then-not-branch : goal.returns-then-not-branch
returns-then-not-branch c =
    let l = c.loop-piece in
    target_stops c.args.pieces.now l.piece-index c.piece-item.result l.text (target_text (items c.args.pieces.now)) c.loop-piece-test.true c.piece-item.is
    (subst (PushesTarget c.piece-item.result l.text c.push_target.new.text) c.if-not-branch.true c.in_ok-push_target.ensures) l.invariant
