use Rattle.std.proofs.Common.{◌≡◌, ◌+◌, ◌-◌, sym, subst, ◌∙◌, arith}
use Rattle.wt_checks.specs.View.{indexed}
use Rattle.wt_places.proofs.Turning.{AreCounted, counted_more}
use Rattle.wt_places.proofs.in_turn.rises.Goals as goal

pub loop-at-preserved-in-Continue-branch-2 : goal.loop-at-preserved-in-Continue-branch-2
loop-at-preserved-in-Continue-branch-2 c =
    let page = indexed c.args.index.now in
    let back : c.loop-at.at ≡ c.loop-at.at - 1 + 1 = omega (arith, c.loop-at-test.true) in
    counted_more page c.args.holder c.args.nodes.now (c.loop-at.at - 1) c.in_ok-rise.rise c.index-nodes-at.result c.loop-at.piles.items c.loop-at.each.items
    c.put.new.numbers.items c.push.new.self.items (omega (arith, c.loop-at-test.true, c.loop-at.invariant.within)) c.index-nodes-at.is
    (sym c.may_stay.ensures ∙ c.if-may_stay.true)
    (subst (λ k. AreCounted page c.args.holder c.args.nodes.now k c.loop-at.piles.items c.loop-at.each.items) back c.loop-at.invariant)
    c.in_ok-rise.ensures.count c.in_ok-rise.ensures.put c.in_ok-push.ensures.items
