use Rattle.std.proofs.Common.{arith}
use Rattle.std.proofs.lemmas.Grind.{common_steps}
use Rattle.wt_tree.proofs.Adding.{signs_views}
use Rattle.wt_original.proofs.same.+show.Goals as goal

pub show_all-returns : goal.show_all-returns
show_all-returns t c = rw (signs_views c.args.nodes.now) (grind (arith, common_steps))
