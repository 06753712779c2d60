use Rattle.std.proofs.Common.{arith, subst, sym, ◌∙◌}
use Rattle.std.proofs.lemmas.Grind.{common_steps}
use Rattle.std.specs.List.{AllByRecursion}
use Rattle.wt_annotated.specs.Reached.{reached_in_all}
use Rattle.wt_annotated.specs.Slices.{IsSlice}
use Rattle.wt_tree.specs.View.{views}
use Rattle.wt_lint.proofs.Walking.{each_sliced, inside_sliced, lies, nodes_views, one_of_all, smaller_inside, takes_node, takes_turn}
use Rattle.wt_lint.proofs.walk.+walk.Goals as goal

pub push_of_all-push_of_tree-requires : goal.push_of_all-push_of_tree-requires
push_of_all-push_of_tree-requires t c = (
  omega (arith, one_of_all c.args.nodes.now c.loop-node.node-index c.node-item.result c.loop-node-test.true c.node-item.is),
  each_sliced c.args.page.now c.args.nodes.now c.loop-node.node-index c.node-item.result c.loop-node-test.true c.node-item.is c.requires,
)

pub push_of_all-loop-node-preserved : goal.push_of_all-loop-node-preserved
push_of_all-loop-node-preserved t c =
    takes_turn _ _ _ _ _ c.args.nodes.now c.loop-node.node-index c.node-item.result c.loop-node-test.true c.node-item.is c.loop-node.invariant
    c.in_ok-push_of_tree.ensures

pub push_of_all-returns : goal.push_of_all-returns
push_of_all-returns t c = rw (nodes_views c.args.place c.args.nodes.now) (grind (arith, common_steps))

pub push_of_tree-push_of_node-requires : goal.push_of_tree-push_of_node-requires
push_of_tree-push_of_node-requires t c =
    let r = lies c.args.page.now c.args.node.now c.in-Some.range c.requires c.in-Some.is in record { within = r.1; ordered = r.0 }

pub push_of_tree-push_of_all-requires : goal.push_of_tree-push_of_all-requires
push_of_tree-push_of_all-requires t c = (
  omega (arith, smaller_inside c.args.node.now c.as_slice.result.now c.as_slice.ensures),
  subst (λ ns. AllByRecursion (IsSlice c.args.page.now) (reached_in_all (views ns))) (sym c.as_slice.ensures)
      (inside_sliced c.args.page.now c.args.node.now c.requires (sym c.is_group.ensures ∙ c.if-is_group.false)),
)

pub push_of_tree-returns : goal.push_of_tree-returns
push_of_tree-returns t c =
    takes_node _ c.args.place c.below-inside.result c.sort_of.result c.as_slice.result.now c.args.node.now c.in-Some.range _ _ _ c.in-Some.is
    (sym c.is_group.ensures ∙ c.if-is_group.false) c.sort_of.ensures c.below-inside.ensures c.as_slice.ensures c.in_ok-push_of_node.ensures.found
    c.in_ok-push_of_node.ensures.titles c.in_ok-push_of_all.ensures
