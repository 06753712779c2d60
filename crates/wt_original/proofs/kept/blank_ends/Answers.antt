use Rattle.wt_original.proofs.Ends.{ends_turn}
use Rattle.wt_original.proofs.kept.blank_ends.Goals as goal

pub loop-at-preserved : goal.loop-at-preserved
loop-at-preserved c =
    let t = ends_turn c.args.items.now c.loop-at.at _ c.loop-at.ends.items c.push.new.self.items c.loop-at.blank c.blank_before-blank.result
    c.loop-at-test.true c.loop-at.invariant.ends c.loop-at.invariant.blank c.blank_before-blank.ensures c.in_ok-push.ensures.items in
    record { ends = t.0; blank = t.1 }
