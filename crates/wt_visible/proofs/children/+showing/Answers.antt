use Rattle.std.proofs.Common.{sym, ◌∙◌}
use Rattle.std.proofs.lemmas.List.{drop_all}
use Rattle.wt_visible.proofs.ShownChildren.{adds_characters, adds_inside, adds_nothing, left_turn, left_none}
use Rattle.wt_visible.proofs.RestoredShown.{shown_element}
use Rattle.wt_visible.proofs.children.+showing.Goals as goal

pub push_shown-returns-in_ok-push_text-in-Characters : goal.push_shown-returns-in_ok-push_text-in-Characters
push_shown-returns-in_ok-push_text-in-Characters t c =
    adds_characters c.args.shown.now c.push_text.new.shown c.args.node.now c.shown.result.now (sym c.showing.ensures ∙ c.in-Characters.is)
    c.shown.ensures c.in_ok-push_text-in-Characters.ensures

pub push_shown-returns-in_ok-push_all_shown-in-Inside : goal.push_shown-returns-in_ok-push_all_shown-in-Inside
push_shown-returns-in_ok-push_all_shown-in-Inside t c =
    adds_inside c.args.shown.now c.push_all_shown.new.shown c.args.node.now c.as_slice.result.now (sym c.showing.ensures ∙ c.in-Inside.is)
    c.as_slice.ensures c.in_ok-push_all_shown-in-Inside.ensures

pub push_shown-returns-in-Nothing : goal.push_shown-returns-in-Nothing
push_shown-returns-in-Nothing t c = adds_nothing c.args.shown.now c.args.node.now (sym c.showing.ensures ∙ c.in-Nothing.is)

pub push_all_shown-loop-node-preserved : goal.push_all_shown-loop-node-preserved
push_all_shown-loop-node-preserved t c =
    left_turn c.args.shown.now c.loop-node.shown c.push_shown.new.shown c.args.nodes.now c.loop-node.node-index c.node-item.result c.loop-node-test.true
    c.node-item.is c.loop-node.invariant c.in_ok-push_shown.ensures

pub push_all_shown-returns : goal.push_all_shown-returns
push_all_shown-returns t c =
    left_none c.args.shown.now c.loop-node.shown c.args.nodes.now c.loop-node.node-index
    (drop_all c.loop-node.node-index c.args.nodes.now c.loop-node-test.false) c.loop-node.invariant

pub push_shown-returns-in_ok-push_element-in-Element : goal.push_shown-returns-in_ok-push_element-in-Element
push_shown-returns-in_ok-push_element-in-Element t c =
    shown_element c.args.shown.now c.push_element.new.shown c.args.node.now c.of.result (sym c.showing.ensures ∙ c.in-Element.is)
    c.of.ensures.node (c.of.ensures.page ∙ c.front_of.ensures) c.in_ok-push_element-in-Element.ensures
