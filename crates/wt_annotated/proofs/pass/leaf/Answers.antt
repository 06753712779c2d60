use Rattle.wt_tree.specs.View.{view}
use Rattle.wt_inline.specs.View.{item_tree}
use Rattle.wt_annotated.proofs.Passes.{leaf_done, number_after}
use Rattle.wt_annotated.proofs.PassPieces.{own_held, own_fits}
use Rattle.wt_annotated.proofs.pass.leaf.Goals as goal

pub after-behind-requires-clause-number : goal.after-behind-requires-clause-number
after-behind-requires-clause-number c = number_after c.args.tree c.args.at.next 4294967296 c.requires.number

pub after-behind-requires-clause-place : goal.after-behind-requires-clause-place
after-behind-requires-clause-place c =
    let own = own_held c.args.tree c.in_ok-own.own c.in_ok-own.ensures in
    own_fits c.args.at.place c.width.result c.in_ok-own.own c.as_slice.result.now
    (item_tree c.args.tree) own c.as_slice.ensures c.width.ensures c.requires.place

pub returns : goal.returns
returns c =
    let own = own_held c.args.tree c.in_ok-own.own c.in_ok-own.ensures in
    leaf_done c.args.tree c.args.at.place c.args.at.next c.after-behind.result.place c.after-behind.result.next c.width.result
    c.in_ok-own.own c.as_slice-2.result.now c.as_slice.result.now
    (view c.in_ok-node.node) c.requires.leaf own c.as_slice-2.ensures c.as_slice.ensures c.in_ok-node.ensures
    c.width.ensures c.after-behind.ensures.place c.after-behind.ensures.number
