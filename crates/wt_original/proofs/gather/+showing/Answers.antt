use Rattle.std.proofs.Common.{arith}
use Rattle.std.proofs.lemmas.Grind.{common_steps}
use Rattle.wt_original.proofs.Nodes.{shown_views}
use Rattle.wt_original.proofs.gather.+showing.Goals as goal

pub push_shown_in-returns : goal.push_shown_in-returns
push_shown_in-returns t c = rw (shown_views c.args.nodes.now) (grind (arith, common_steps))
