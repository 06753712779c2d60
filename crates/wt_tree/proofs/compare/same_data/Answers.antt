use Rattle.wt_tree.proofs.Same.{mw_same}
use Rattle.wt_tree.proofs.compare.same_data.Goals as goal

pub returns : goal.returns
returns c = rw c.eq.ensures (mw_same c.args.a c.args.b)
