use Rattle.wt_content.proofs.ChildFaulting.{block_inside, rule_inside}
use Rattle.wt_content.proofs.children.visit_inside.Goals as goal

pub returns-then-is_rule : goal.returns-then-is_rule
returns-then-is_rule c = λ same tells ws h.
    rule_inside same c.args.node.now c.args.form c.is_rule.result c.if_any_held.result c.as_slice-children.result.now c.add_any.new.self ws
    c.is_rule.ensures c.if-is_rule.true c.as_slice-children.ensures c.if_any_held.ensures (c.add_any.ensures ws h)

pub returns : goal.returns
returns c = λ same tells ws h.
    block_inside same c.args.node.now c.args.form c.is_rule.result c.args.page.now c.outermost.result c.as_slice-children.result.now c.visit_all.new.found ws
    c.is_rule.ensures c.if-is_rule.false c.requires c.outermost.ensures c.as_slice-children.ensures
    (c.in_ok-visit_all.ensures same tells ws h)
