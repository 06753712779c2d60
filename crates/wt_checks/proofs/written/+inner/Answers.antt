use Rattle.std.proofs.Common.{sym, ap, ◌∙◌, map, ◌++◌}
use Rattle.wt_tree.specs.Stream.{byte, signs_of_all}
use Rattle.wt_tree.specs.View.{views}
use Rattle.wt_checks.specs.Tokens.{written_signs, all_bare_signs}
use Rattle.wt_checks.proofs.Elements.{inner_turn, inner_text, element_turn}
use Rattle.wt_checks.proofs.written.+inner.Goals as goal

pub push_all_inner-loop-node-preserved : goal.push_all_inner-loop-node-preserved
push_all_inner-loop-node-preserved t c =
    inner_turn (written_signs c.args.out.now.items) (written_signs c.loop-node.out.items)
    (written_signs c.push_inner.new.out.items) c.args.nodes.now c.loop-node.node-index c.node-item.result
    c.loop-node-test.true c.node-item.is c.loop-node.invariant
    c.in_ok-push_inner.ensures

pub push_inner-returns-in_ok-push_text-in-Characters : goal.push_inner-returns-in_ok-push_text-in-Characters
push_inner-returns-in_ok-push_text-in-Characters t c =
    c.in_ok-push_text-in-Characters.ensures ∙ ap (λ ss. written_signs c.args.out.now.items ++ ss)
    (ap (map byte) c.shown.ensures ∙ sym (inner_text c.args.node.now (sym c.showing.ensures ∙ c.in-Characters.is)))

pub push_inner-returns-in_ok-push_part-in-Element-2 : goal.push_inner-returns-in_ok-push_part-in-Element-2
push_inner-returns-in_ok-push_part-in-Element-2 t c =
    element_turn (written_signs c.args.out.now.items) (written_signs c.push_part.new.out.items)
    (written_signs c.push_all_inner-in-Element.new.out.items) (written_signs c.push_part-in-Element.new.out.items)
    c.args.node.now (sym c.showing.ensures ∙ c.in-Element.is)
    c.in_ok-push_part-in-Element.ensures
    (c.in_ok-push_all_inner-in-Element.ensures ∙ ap
    (λ ns. written_signs c.push_part.new.out.items ++ all_bare_signs (signs_of_all (views ns))) c.as_slice-in-Element.ensures)
    c.in_ok-push_part-in-Element-2.ensures
