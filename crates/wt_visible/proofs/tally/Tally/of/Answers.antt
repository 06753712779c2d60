use Rattle.std.proofs.Common.{rules}
use Rattle.wt_visible.specs.Tally.{counted}
use Rattle.wt_visible.proofs.Tallies.{counted_on}
use Rattle.wt_visible.proofs.tally.Tally.of.Goals as goal

pub loop-text-preserved : goal.loop-text-preserved
loop-text-preserved c =
    counted_on c.args.texts.now c.loop-text.text-index c.text-item.result c.trimmed.result.now c.loop-text-test.true (search rules) c.trimmed.ensures
    (counted c.loop-text.tally) (counted c.add.new.self) c.loop-text.invariant c.in_ok-add.ensures
