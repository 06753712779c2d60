use Rattle.std.proofs.Common.{ap, sym, ◌∙◌}
use Rattle.wt_tree.specs.declared.node.Node.{out-Node}
use Rattle.wt_slices.specs.declared.child.Child.{Child}
use Rattle.wt_slices.proofs.StepWalk.{none_more}
use Rattle.wt_slices.proofs.steps.place_of.Goals as goal

pub loop-at-preserved : goal.loop-at-preserved
loop-at-preserved c =
    none_more c.args.number c.args.nodes.now c.loop-at.at c.index-nodes-at.result c.loop-at-test.true c.index-nodes-at.is
    (λ e. c.if-nodes-at.false (ap (λ (n : Child). (out-Node n.node.now).id) (sym c.index-nodes-at.is) ∙ e)) c.loop-at.invariant
