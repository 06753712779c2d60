use Rattle.std.proofs.Common.{true≢false, sym, ◌∙◌}
use Rattle.wt_checks.specs.View.{indexed}
use Rattle.wt_places.proofs.Turning.{turned_more}
use Rattle.wt_places.proofs.in_turn.turns.Goals as goal
use Rattle.wt_places.proofs.in_turn.turns.Goals.{then-is_in_turn, else-is_in_turn}

pub loop-node-preserved : goal.loop-node-preserved
loop-node-preserved c =
    turned_more (indexed c.args.index.now) c.args.holder c.args.nodes.now c.loop-node.node-index c.loop-node.number c.loop-node.left c.pop_rise-rise.result
    c.if-is_in_turn.left c.if-is_in_turn.number c.node-item.result c.loop-node.each.items c.pop_rise-rise.new.each.items c.loop-node.out.items
    c.push.new.self.items c.is_next-is_in_turn.result c.loop-node-test.true c.node-item.is c.loop-node.invariant c.pop_rise-rise.ensures
    c.is_next-is_in_turn.ensures c.in_ok-push.ensures.items
    (λ e. elim c.if-is_in_turn.branch [
      | then-is_in_turn w ↦ (w.number-is, w.left-is ∙ w.saturating_sub-left.ensures)
      | else-is_in_turn w ↦ absurd (true≢false (sym e ∙ w.if-is_in_turn.false))
    ])
    (λ e. elim c.if-is_in_turn.branch [
      | then-is_in_turn w ↦ absurd (true≢false (sym w.if-is_in_turn.true ∙ e))
      | else-is_in_turn w ↦ (w.number-is, w.left-is)
    ])
