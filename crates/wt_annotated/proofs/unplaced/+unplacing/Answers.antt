use Rattle.std.proofs.Common.{◌≡◌, length, sym, ◌∙◌}
use Rattle.std.specs.Vec.Iter.{into_iter_items}
use Rattle.std.proofs.lemmas.Result.{IfOk-weaker}
use Rattle.wt_tree.specs.View.{view, views}
use Rattle.wt_annotated.proofs.UnplacedNodes.{inner_unplaced, all_unplaced_done}
use Rattle.wt_annotated.proofs.unplaced.+unplacing.Goals as goal

pub unplaced_node-returns : goal.unplaced_node-returns
unplaced_node-returns t c =
    IfOk-weaker c.unplaced_inner.result _ _
    (λ n e. inner_unplaced c.args.tree (view n) (views c.in_ok-children.children) c.as_slice.result.now c.as_slice-2.result.now
    (sym c.is_leaf.ensures ∙ c.if-is_leaf.false) e c.as_slice.ensures c.as_slice-2.ensures c.in_ok-children.ensures)
    c.unplaced_inner.ensures

pub unplaced_nodes-returns : goal.unplaced_nodes-returns
unplaced_nodes-returns t c =
    let rs = into_iter_items c.loop-tree.tree-iterator in
    let ys = into_iter_items c.into_iter-tree-iterator.result in
    let given : ys ≡ c.into_vec-tree-items.result.items = c.into_iter-tree-iterator.ensures.into_iter_gives.0 in
    let len : length rs ≡ 0 = sym c.loop-tree.tree-iterator.rest.ok.0 ∙ c.in-None.ensures.steps.0 in
    all_unplaced_done c.loop-tree.nodes rs ys c.args.trees c.loop-tree.invariant len (given ∙ c.into_vec-tree-items.ensures)
