use Rattle.wt_html_in.proofs.Opened.{open_on}
use Rattle.wt_html_in.proofs.sections.are_open.Goals as goal

pub loop-node-preserved : goal.loop-node-preserved
loop-node-preserved c =
    open_on _ c.args.nodes.now c.loop-node.node-index c.node-item.result c.is_section.result c.loop-node-test.true c.node-item.is
    c.is_section.ensures c.if-is_section.false c.loop-node.invariant
