use Rattle.wt_span.proofs.Spans.{tiles_push}
use Rattle.wt_span.proofs.range.Tiles.push.Goals as goal

pub invariant_of-self-2 : goal.invariant_of-self-2
invariant_of-self-2 c = tiles_push c.self.inside.at c.self.inside.ranges c.args.r c.push.new.self c.in_ok-push.ensures.ok
    c.self.invariant.0 (rw (← c.self.view_is) at c.requires)
