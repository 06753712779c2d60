use Rattle.wt_lint.proofs.Orders.{lines_turn}
use Rattle.wt_lint.proofs.order.with_lines.Goals as goal

pub loop-spot-preserved : goal.loop-spot-preserved
loop-spot-preserved c = record {
  done = lines_turn c.args.page.now c.loop-spot.findings c.finding_at.result c.in-Some.spot c.loop-spot.spots.keys c.pop_first.new.self.keys c.push.new.self _
      c.in-Some.ensures.removal (c.finding_at.ensures c.args.page.now c.moved-cursor.ensures.is) c.in_ok-push.ensures.ok c.loop-spot.invariant.done;
  at = c.moved-cursor.ensures.own;
}
