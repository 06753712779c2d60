use Rattle.std.proofs.Common.{arith, refl}
use Rattle.wt_lint.specs.Found.{each}
use Rattle.wt_lint.proofs.TextTurns.{pairs_turn}
use Rattle.wt_lint.proofs.text.push_pairs.Goals as goal

pub loop-at-preserved : goal.loop-at-preserved
loop-at-preserved c = record {
  taken = pairs_turn c.args.byte c.args.start c.args.bytes.now c.loop-at.at c.loop-at.held _ _ c.args.kind (each c.loop-at.found.items)
      (each c.push_pair.new.found.items) _ c.loop-at-test.true refl c.loop-at.invariant.behind c.in_ok-held.ensures.held c.in_ok-held.ensures.taken
      c.loop-at.invariant.taken;
  behind = λ e. omega arith;
}
