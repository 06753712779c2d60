use Rattle.std.proofs.Common.{◌≡◌, length, sym, ◌∙◌, arith}
use Rattle.std.specs.Vec.Iter.{into_iter_items}
use Rattle.wt_tree.specs.View.{view, views}
use Rattle.wt_inline.specs.ItemTree.{forest}
use Rattle.wt_inline.specs.View.{head_of, item_trees}
use Rattle.wt_inline.specs.declared.tree.PieceTree.{out-PieceTree}
use Rattle.wt_annotated.proofs.Passes.{so_far_init, room_place, room_number, smaller_child, smaller_children, room_inside, number_after, number_inside, so_far_step, all_done, room_closing, inside_from, inner_done, three_ok}
use Rattle.wt_annotated.proofs.pass.+annotating.Goals as goal

pub annotated_all-loop-tree-init : goal.annotated_all-loop-tree-init
annotated_all-loop-tree-init t c =
    so_far_init c.in_ok-nodes.nodes c.args.at.place c.args.at.next (item_trees (into_iter_items c.into_iter-tree-iterator.result)) c.in_ok-nodes.ensures

pub annotated_all-annotated_node-requires : goal.annotated_all-annotated_node-requires
annotated_all-annotated_node-requires t c =
    let rs = into_iter_items c.loop-tree.tree-iterator in
    let ys = into_iter_items c.into_iter-tree-iterator.result in
    let given : ys ≡ c.into_vec-tree-items.result.items = c.into_iter-tree-iterator.ensures.into_iter_gives.0 in
    let e : ys ≡ c.args.trees = given ∙ c.into_vec-tree-items.ensures in (
      omega (
        arith,
        smaller_child _ c.loop-tree.behind.place c.loop-tree.behind.next c.args.at.place c.args.at.next c.in-Some.tree
            (into_iter_items c.next.new.self) rs ys c.args.trees c.loop-tree.invariant c.in-Some.ensures.steps.0 e,
      ),
      (
        room_place _ c.loop-tree.behind.place c.loop-tree.behind.next c.args.at.place c.args.at.next 4294967296 c.in-Some.tree
            (into_iter_items c.next.new.self) rs ys c.args.trees c.loop-tree.invariant c.in-Some.ensures.steps.0 e c.requires.place,
        room_number _ c.loop-tree.behind.place c.loop-tree.behind.next c.args.at.place c.args.at.next 4294967296 c.in-Some.tree
            (into_iter_items c.next.new.self) rs ys c.args.trees c.loop-tree.invariant c.in-Some.ensures.steps.0 e c.requires.number,
      ),
    )

pub annotated_all-loop-tree-preserved : goal.annotated_all-loop-tree-preserved
annotated_all-loop-tree-preserved t c =
    so_far_step c.loop-tree.nodes c.push.new.self c.in_ok-made.made.node c.loop-tree.behind.place c.loop-tree.behind.next
    c.in_ok-made.made.behind.place c.in_ok-made.made.behind.next c.args.at.place c.args.at.next c.in-Some.tree
    (into_iter_items c.next.new.self) (into_iter_items c.loop-tree.tree-iterator)
    (item_trees (into_iter_items c.into_iter-tree-iterator.result)) c.loop-tree.invariant c.in-Some.ensures.steps.0 c.in_ok-made.ensures c.in_ok-push.ensures.ok

pub annotated_all-returns : goal.annotated_all-returns
annotated_all-returns t c =
    let rs = into_iter_items c.loop-tree.tree-iterator in
    let ys = into_iter_items c.into_iter-tree-iterator.result in
    let given : ys ≡ c.into_vec-tree-items.result.items = c.into_iter-tree-iterator.ensures.into_iter_gives.0 in
    let len : length rs ≡ 0 = sym c.loop-tree.tree-iterator.rest.ok.0 ∙ c.in-None.ensures.steps.0 in
    all_done c.loop-tree.nodes c.loop-tree.behind.place c.loop-tree.behind.next c.args.at.place c.args.at.next rs ys c.args.trees
    c.loop-tree.invariant len (given ∙ c.into_vec-tree-items.ensures)

pub annotated_node-annotated_all-requires : goal.annotated_node-annotated_all-requires
annotated_node-annotated_all-requires t c = (
  omega (arith, smaller_children c.args.tree),
  (
    room_inside c.args.tree c.args.at.place c.after-inside.result.place c.width.result 4294967296 c.as_slice.result.now
        c.after-inside.ensures.place c.width.ensures c.as_slice.ensures c.requires.place,
    number_inside c.args.tree c.args.at.next c.after-inside.result.next 4294967296 (sym c.is_leaf.ensures ∙ c.if-is_leaf.false)
        c.after-inside.ensures.number c.requires.number,
  ),
)

pub annotated_node-after-inside-requires-clause-number : goal.annotated_node-after-inside-requires-clause-number
annotated_node-after-inside-requires-clause-number t c = number_after c.args.tree c.args.at.next 4294967296 c.requires.number

pub annotated_node-node_round-requires-clause-closing : goal.annotated_node-node_round-requires-clause-closing
annotated_node-node_round-requires-clause-closing t c =
    let made = c.in_ok-children.children in
    room_closing c.args.tree c.args.at.place 0 c.after-inside.result.place c.width.result c.after-inside.result.next
    made.behind.place made.behind.next 4294967296 c.as_slice.result.now
    (views made.nodes) c.in_ok-children.ensures c.after-inside.ensures.place c.width.ensures c.as_slice.ensures c.requires.place

pub annotated_node-returns : goal.annotated_node-returns
annotated_node-returns t c =
    let made = c.in_ok-children.children in
    let n = out-PieceTree c.args.tree in
    let inside = inside_from c.after-inside.result.place c.after-inside.result.next c.args.at.place c.width.result 0
    c.as_slice.result.now n.opening (head_of n.head) c.args.at.next (forest (item_trees n.children))
    (views made.nodes) made.behind.place made.behind.next
    c.in_ok-children.ensures c.after-inside.ensures.place c.width.ensures c.as_slice.ensures c.after-inside.ensures.number in
    three_ok c.node_round.result _ _ _ _
    (λ m e f g. inner_done c.args.tree c.args.at.place c.args.at.next m.behind.place m.behind.next made.behind.place
    made.behind.next (views made.nodes) (view m.node) (sym c.is_leaf.ensures ∙ c.if-is_leaf.false) inside e f g)
    c.node_round.ensures.node c.node_round.ensures.place c.node_round.ensures.number
