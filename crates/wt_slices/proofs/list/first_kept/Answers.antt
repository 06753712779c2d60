use Rattle.wt_slices.proofs.ListWalk.{kept_here, kept_later, kept_nowhere}
use Rattle.wt_slices.proofs.list.first_kept.Goals as goal

pub returns-then-is_kept_child-clause-behind : goal.returns-then-is_kept_child-clause-behind
returns-then-is_kept_child-clause-behind c =
    kept_here c.args.nodes.now c.loop-at.at c.index-nodes-at.result c.is_kept_child.result c.loop-at.invariant c.loop-at-test.true c.index-nodes-at.is
    c.is_kept_child.ensures c.if-is_kept_child.true

pub loop-at-preserved : goal.loop-at-preserved
loop-at-preserved c =
    kept_later c.args.nodes.now c.loop-at.at c.index-nodes-at.result c.is_kept_child.result c.loop-at.invariant c.loop-at-test.true c.index-nodes-at.is
    c.is_kept_child.ensures c.if-is_kept_child.false

pub returns-clause-behind : goal.returns-clause-behind
returns-clause-behind c = kept_nowhere c.args.nodes.now c.loop-at.at c.loop-at-test.false c.loop-at.invariant
