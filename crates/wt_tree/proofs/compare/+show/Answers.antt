use Rattle.wt_tree.proofs.Adding.{signs_element, adds_turn, signs_views}
use Rattle.std.proofs.Common.{sym, ◌∙◌, arith}
use Rattle.std.proofs.lemmas.Grind.{common_steps}
use Rattle.wt_tree.proofs.compare.+show.Goals as goal

pub show-returns-in_ok-close-in-Element : goal.show-returns-in_ok-close-in-Element
show-returns-in_ok-close-in-Element t c =
    signs_element c.args.node.now _ _ _ _ (sym c.showing.ensures ∙ c.in-Element.is) c.in_ok-open-in-Element.ensures
    (rw c.as_slice-in-Element.ensures at c.in_ok-show_all-in-Element.ensures) c.in_ok-close-in-Element.ensures

pub show_all-loop-node-preserved : goal.show_all-loop-node-preserved
show_all-loop-node-preserved t c =
    adds_turn _ _ _ c.args.nodes.now c.loop-node.node-index c.node-item.result c.loop-node-test.true c.node-item.is c.loop-node.invariant c.in_ok-show.ensures

pub show_all-returns : goal.show_all-returns
show_all-returns t c = rw (signs_views c.args.nodes.now) (grind (arith, common_steps))
