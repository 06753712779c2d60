use Rattle.std.proofs.Common.{true, false, refl, sym, ◌∙◌}
use Rattle.std.proofs.lemmas.List.{drop_all}
use Rattle.wt_annotated.proofs.PlainTrees.{unfilled, round_is, filled_by, none_left, filled_in_all}
use Rattle.wt_inline.specs.declared.tree.PieceTree.{out-PieceTree}
use Rattle.wt_annotated.proofs.filled.+is_filled.Goals as goal

pub returns-then-not-is_round : goal.returns-then-not-is_round
returns-then-not-is_round t c =
    let n = c.args.tree.now in
    sym (filled_by n false (filled_in_all (out-PieceTree n).children)
    (round_is n c.as_slice-2.result.now c.as_slice-3.result.now c.as_slice.result.now c.is_round.result c.are_some-some.result
    c.as_slice-2.ensures c.as_slice.ensures c.as_slice-3.ensures c.are_some-some.ensures c.is_round.ensures ∙ c.if-not-is_round.true) refl)

pub returns-then-not-is_filled : goal.returns-then-not-is_filled
returns-then-not-is_filled t c =
    unfilled c.args.tree.now c.as_slice-child-items.result.now c.loop-child.child-index c.child-item.result c.as_slice-child-items.ensures
    c.loop-child-test.true c.child-item.is c.loop-child.invariant (sym c.is_filled.ensures ∙ c.if-not-is_filled.true)

pub returns : goal.returns
returns t c =
    let n = c.args.tree.now in
    let ns = c.as_slice-child-items.result.now in
    sym (filled_by n true true
    (round_is n c.as_slice-2.result.now c.as_slice-3.result.now c.as_slice.result.now c.is_round.result c.are_some-some.result
    c.as_slice-2.ensures c.as_slice.ensures c.as_slice-3.ensures c.are_some-some.ensures c.is_round.ensures ∙ c.if-not-is_round.false)
    (none_left n ns c.loop-child.child-index c.as_slice-child-items.ensures
    (drop_all c.loop-child.child-index ns c.loop-child-test.false) c.loop-child.invariant))
