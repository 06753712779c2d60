use Rattle.std.proofs.Common.{arith, ap, sym, ◌∙◌}
use Rattle.wt_tree.specs.declared.node.Node.{out-Node}
use Rattle.wt_difference.specs.declared.insides.Child.{Child}
use Rattle.wt_places.proofs.Passing.{found_at, found_none, passed_more}
use Rattle.wt_places.proofs.slots.place_of.Goals as goal

pub loop-at-preserved : goal.loop-at-preserved
loop-at-preserved c =
    passed_more c.args.number c.args.nodes.now c.loop-at.at c.index-nodes-at.result c.loop-at-test.true c.index-nodes-at.is
    (λ e. c.if-nodes-at.false (ap (λ (n : Child). (out-Node n.node.now).id) (sym c.index-nodes-at.is) ∙ e)) c.loop-at.invariant

pub returns-then-nodes-at-clause-before : goal.returns-then-nodes-at-clause-before
returns-then-nodes-at-clause-before c =
    (found_at c.args.number c.args.nodes.now c.loop-at.at c.index-nodes-at.result c.loop-at-test.true c.index-nodes-at.is
    (ap (λ (n : Child). (out-Node n.node.now).id) c.index-nodes-at.is ∙ c.if-nodes-at.true) c.loop-at.invariant).before

pub returns-then-nodes-at-clause-behind : goal.returns-then-nodes-at-clause-behind
returns-then-nodes-at-clause-behind c =
    (found_at c.args.number c.args.nodes.now c.loop-at.at c.index-nodes-at.result c.loop-at-test.true c.index-nodes-at.is
    (ap (λ (n : Child). (out-Node n.node.now).id) c.index-nodes-at.is ∙ c.if-nodes-at.true) c.loop-at.invariant).behind

pub returns-clause-before : goal.returns-clause-before
returns-clause-before c = (found_none c.args.number c.args.nodes.now c.loop-at.at (omega arith) (omega arith) c.loop-at.invariant).before

pub returns-clause-behind : goal.returns-clause-behind
returns-clause-behind c = (found_none c.args.number c.args.nodes.now c.loop-at.at (omega arith) (omega arith) c.loop-at.invariant).behind
