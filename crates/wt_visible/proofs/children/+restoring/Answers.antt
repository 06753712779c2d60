use Rattle.std.proofs.Common.{ap, sym, ◌∙◌}
use Rattle.std.proofs.lemmas.List.{drop_all}
use Rattle.wt_tree.specs.View.{views}
use Rattle.wt_checks.specs.View.{indexed}
use Rattle.wt_visible.specs.Restored.{all_restored, restored_held}
use Rattle.wt_tree.specs.View.{view}
use Rattle.wt_visible.proofs.RestoredShown.{adds_held, held_group, held_own, restored_characters, restored_element, restored_inside, restored_left, restored_nothing, restored_turn}
use Rattle.wt_visible.proofs.children.+restoring.Goals as goal

pub push_restored-returns-in_ok-push_text-in-Characters : goal.push_restored-returns-in_ok-push_text-in-Characters
push_restored-returns-in_ok-push_text-in-Characters t c =
    restored_characters (indexed c.args.page.now) c.args.shown.now c.push_text.new.shown c.args.node.now c.shown.result.now
    (sym c.showing.ensures ∙ c.in-Characters.is) c.shown.ensures c.in_ok-push_text-in-Characters.ensures

pub push_restored-returns-then-group : goal.push_restored-returns-then-group
push_restored-returns-then-group t c =
    restored_inside (indexed c.args.page.now) c.args.shown.now c.push_all_shown.new.shown c.args.node.now (sym c.showing.ensures ∙ c.in-Inside.is)
    (adds_held c.args.shown.now c.push_all_shown.new.shown (views c.group_held.result.now) (restored_held (indexed c.args.page.now) (view c.args.node.now))
    (held_group (indexed c.args.page.now) c.args.node.now c.group_held.result.now (sym c.is_group-group.ensures ∙ c.if-group.true) c.group_held.ensures)
    c.in_ok-push_all_shown-in-Inside.ensures)

pub push_restored-returns-in_ok-push_all_restored-in-Inside : goal.push_restored-returns-in_ok-push_all_restored-in-Inside
push_restored-returns-in_ok-push_all_restored-in-Inside t c =
    restored_inside (indexed c.args.page.now) c.args.shown.now c.push_all_restored.new.shown c.args.node.now (sym c.showing.ensures ∙ c.in-Inside.is)
    (adds_held c.args.shown.now c.push_all_restored.new.shown (all_restored (indexed c.args.page.now) (views c.as_slice.result.now))
    (restored_held (indexed c.args.page.now) (view c.args.node.now))
    (ap (λ ns. all_restored (indexed c.args.page.now) (views ns)) c.as_slice.ensures
    ∙ held_own (indexed c.args.page.now) c.args.node.now (sym c.is_group-group.ensures ∙ c.if-group.false))
    c.in_ok-push_all_restored-in-Inside.ensures)

pub push_restored-returns-in-Nothing : goal.push_restored-returns-in-Nothing
push_restored-returns-in-Nothing t c = restored_nothing (indexed c.args.page.now) c.args.shown.now c.args.node.now (sym c.showing.ensures ∙ c.in-Nothing.is)

pub push_restored-returns-in_ok-push_element-in-Element : goal.push_restored-returns-in_ok-push_element-in-Element
push_restored-returns-in_ok-push_element-in-Element t c =
    restored_element (indexed c.args.page.now) c.args.shown.now c.push_element.new.shown c.args.node.now c.of.result (sym c.showing.ensures ∙ c.in-Element.is)
    c.of.ensures.node (ap indexed c.of.ensures.page) c.in_ok-push_element-in-Element.ensures

pub push_all_restored-loop-node-preserved : goal.push_all_restored-loop-node-preserved
push_all_restored-loop-node-preserved t c =
    restored_turn (indexed c.args.page.now) c.args.shown.now c.loop-node.shown c.push_restored.new.shown c.args.nodes.now c.loop-node.node-index c.node-item.result
    c.loop-node-test.true c.node-item.is c.loop-node.invariant c.in_ok-push_restored.ensures

pub push_all_restored-returns : goal.push_all_restored-returns
push_all_restored-returns t c =
    restored_left (indexed c.args.page.now) c.args.shown.now c.loop-node.shown c.args.nodes.now c.loop-node.node-index
    (drop_all c.loop-node.node-index c.args.nodes.now c.loop-node-test.false) c.loop-node.invariant
