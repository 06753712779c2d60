use Rattle.std.proofs.Common.{arith}
use Rattle.wt_selser.specs.Borders.{page_text}
use Rattle.wt_selser.proofs.GroupBorders.{held_at, inside_lighter, node_at, one_lighter, own_at}
use Rattle.wt_selser.proofs.NoGroups.{none_held}
use Rattle.wt_selser.proofs.group_fault.+faults.Goals as goal

pub is_faulty_node-is_faulty_at-requires : goal.is_faulty_node-is_faulty_at-requires
is_faulty_node-is_faulty_at-requires t c = own_at (page_text c.args.page.now) c.args.node.now c.requires

pub is_faulty_node-returns-in-Bold-clause-alone : goal.is_faulty_node-returns-in-Bold-clause-alone
is_faulty_node-returns-in-Bold-clause-alone t c = λ h.
    c.has_faulty_group.ensures.alone (none_held c.args.node.now c.as_slice.result.now c.as_slice.ensures h)

pub is_faulty_node-has_faulty_group-requires : goal.is_faulty_node-has_faulty_group-requires
is_faulty_node-has_faulty_group-requires t c = (
  omega (arith, inside_lighter c.args.node.now c.as_slice.result.now c.as_slice.ensures),
  held_at (page_text c.args.page.now) c.args.node.now c.as_slice.result.now c.as_slice.ensures c.requires,
)

pub has_faulty_group-is_faulty_node-requires : goal.has_faulty_group-is_faulty_node-requires
has_faulty_group-is_faulty_node-requires t c = (
  omega (arith, one_lighter c.args.nodes.now c.loop-node.node-index c.node-item.result c.loop-node-test.true c.node-item.is),
  node_at (page_text c.args.page.now) c.args.nodes.now c.loop-node.node-index c.node-item.result c.requires c.loop-node-test.true c.node-item.is,
)
