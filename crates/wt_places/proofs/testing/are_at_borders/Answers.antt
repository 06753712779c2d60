use Rattle.wt_places.proofs.Rewriting.{one_at_borders, all_at_borders}
use Rattle.wt_places.proofs.testing.are_at_borders.Goals as goal

pub loop-change-preserved : goal.loop-change-preserved
loop-change-preserved c =
    let at = c.if-not-is_at_borders.false in
    one_at_borders c.args.page.now c.args.changes.now c.loop-change.change-index c.change-item.result c.loop-change-test.true c.change-item.is
    (c.is_at_borders.ensures.start at) (c.is_at_borders.ensures.end at) c.loop-change.invariant

pub returns : goal.returns
returns c = λ e. all_at_borders c.args.page.now c.args.changes.now c.loop-change.change-index c.loop-change-test.false c.loop-change.invariant
