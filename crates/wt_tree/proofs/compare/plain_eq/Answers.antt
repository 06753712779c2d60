use Rattle.wt_tree.proofs.Adding.{plain_decides}
use Rattle.wt_tree.specs.View.{view}
use Rattle.wt_tree.proofs.compare.plain_eq.Goals as goal

pub returns : goal.returns
returns c = plain_decides (view c.args.a.now) (view c.args.b.now) c.in_ok-left.left c.in_ok-right.right c.same_shown-same.result
    c.in_ok-left.ensures c.in_ok-right.ensures c.same_shown-same.ensures
