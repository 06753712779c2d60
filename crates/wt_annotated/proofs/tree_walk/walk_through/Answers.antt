use Rattle.wt_inline.specs.ItemTree.{tree_items}
use Rattle.wt_inline.specs.View.{item_tree}
use Rattle.wt_annotated.specs.Pieces.{outer_calls}
use Rattle.wt_annotated.proofs.Progresses.{closing_room, inside_room, opening_room, outset_room, walk_lasts, walk_widths}
use Rattle.wt_annotated.proofs.tree_walk.walk_through.Goals as goal

pub past_pieces-opened-requires : goal.past_pieces-opened-requires
past_pieces-opened-requires c =
    let calls = outer_calls c.args.calls.now in
    let n = c.args.tree.now in
    opening_room calls c.outset.result n c.as_slice.result.now c.as_slice.ensures
    (outset_room calls c.args.before c.outset.result (tree_items (item_tree n)) c.outset.ensures c.requires)

pub past_trees-filled-requires : goal.past_trees-filled-requires
past_trees-filled-requires c =
    let calls = outer_calls c.args.calls.now in
    let n = c.args.tree.now in
    inside_room calls c.outset.result c.past_pieces-opened.result n c.as_slice.result.now c.as_slice-2.result.now c.as_slice.ensures c.as_slice-2.ensures
    c.past_pieces-opened.ensures (outset_room calls c.args.before c.outset.result (tree_items (item_tree n)) c.outset.ensures c.requires)

pub past_pieces-closed-requires : goal.past_pieces-closed-requires
past_pieces-closed-requires c =
    let calls = outer_calls c.args.calls.now in
    let n = c.args.tree.now in
    closing_room calls c.outset.result c.past_pieces-opened.result c.past_trees-filled.result n c.as_slice.result.now c.as_slice-3.result.now
    c.as_slice-2.result.now c.as_slice.ensures c.as_slice-2.ensures c.as_slice-3.ensures c.past_pieces-opened.ensures c.past_trees-filled.ensures
    (outset_room calls c.args.before c.outset.result (tree_items (item_tree n)) c.outset.ensures c.requires)

pub returns-clause-lasts : goal.returns-clause-lasts
returns-clause-lasts c =
    walk_lasts (outer_calls c.args.calls.now) c.args.before c.outset.result c.past_pieces-opened.result c.past_trees-filled.result
    c.past_pieces-closed.result c.args.tree.now c.as_slice.result.now c.as_slice-3.result.now c.as_slice-2.result.now c.outset.ensures c.as_slice.ensures
    c.as_slice-2.ensures c.as_slice-3.ensures c.past_pieces-opened.ensures c.past_trees-filled.ensures c.past_pieces-closed.ensures

pub returns-clause-widths : goal.returns-clause-widths
returns-clause-widths c =
    walk_widths (outer_calls c.args.calls.now) c.args.before c.outset.result c.past_pieces-opened.result c.past_trees-filled.result
    c.past_pieces-closed.result c.args.tree.now c.as_slice.result.now c.as_slice-3.result.now c.as_slice-2.result.now c.outset.ensures c.as_slice.ensures
    c.as_slice-2.ensures c.as_slice-3.ensures c.past_pieces-opened.ensures c.past_trees-filled.ensures c.past_pieces-closed.ensures
