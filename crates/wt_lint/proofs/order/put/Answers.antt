use Rattle.std.proofs.Common.{ap, ◌∙◌}
use Rattle.wt_lint.specs.Found.{each}
use Rattle.wt_lint.proofs.Orders.{put_seen, spot_order}
use Rattle.wt_lint.proofs.order.put.Goals as goal

pub returns : goal.returns
returns c = ap each c.in_ok-insert.ensures.keys ∙ put_seen _ spot_order c.args.set.now.keys c.args.spot
