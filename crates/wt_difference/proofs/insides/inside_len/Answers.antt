use Rattle.std.proofs.Common.{arith, sym, ◌∙◌}
use Rattle.wt_difference.proofs.InsideEnd.{passed_more, found_at, found_none}
use Rattle.wt_difference.proofs.insides.inside_len.Goals as goal

pub returns-then-ends_inside-clause-before : goal.returns-then-ends_inside-clause-before
returns-then-ends_inside-clause-before c =
    (found_at c.args.nodes.now c.loop-at.at c.index-nodes-at.result c.loop-at-test.true c.index-nodes-at.is
    (sym c.ends_inside.ensures ∙ c.if-ends_inside.true) c.loop-at.invariant).before

pub returns-then-ends_inside-clause-behind : goal.returns-then-ends_inside-clause-behind
returns-then-ends_inside-clause-behind c =
    (found_at c.args.nodes.now c.loop-at.at c.index-nodes-at.result c.loop-at-test.true c.index-nodes-at.is
    (sym c.ends_inside.ensures ∙ c.if-ends_inside.true) c.loop-at.invariant).behind

pub loop-at-preserved : goal.loop-at-preserved
loop-at-preserved c =
    passed_more c.args.nodes.now c.loop-at.at c.index-nodes-at.result c.loop-at-test.true c.index-nodes-at.is
    (sym c.ends_inside.ensures ∙ c.if-ends_inside.false) c.loop-at.invariant

pub returns-clause-before : goal.returns-clause-before
returns-clause-before c = (found_none c.args.nodes.now c.loop-at.at c.loop-at-test.false (omega arith) c.loop-at.invariant).before

pub returns-clause-behind : goal.returns-clause-behind
returns-clause-behind c = (found_none c.args.nodes.now c.loop-at.at c.loop-at-test.false (omega arith) c.loop-at.invariant).behind
