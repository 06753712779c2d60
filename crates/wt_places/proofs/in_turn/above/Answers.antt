use Rattle.std.proofs.Common.{◌+◌, ◌-◌, ◌/◌, ◌<◌, length, arith}
use Rattle.wt_places.specs.Piles.{above}
use Rattle.wt_places.proofs.Turning.{above_long, in_front, not_in_front}
use Rattle.wt_places.proofs.in_turn.above.Goals as goal

pub loop-low-init : goal.loop-low-init
loop-low-init c = record {
  below = omega arith;
  till = above_long c.args.number c.args.numbers.now;
  within = omega arith;
}

pub loop-low-preserved-then-number-numbers : goal.loop-low-preserved-then-number-numbers
loop-low-preserved-then-number-numbers c =
    let middle = c.loop-low.low + (c.loop-low.high - c.loop-low.low) / 2 in
    let fits : middle < length c.args.numbers.now = omega (arith, c.loop-low-test.true, c.loop-low.invariant.within) in
    let front : middle < above c.args.number c.args.numbers.now = in_front c.args.number c.args.numbers.now middle _ c.requires fits c.if-number-numbers.true in
    record { below = omega (arith, front); till = c.loop-low.invariant.till; within = c.loop-low.invariant.within }

pub loop-low-preserved : goal.loop-low-preserved
loop-low-preserved c =
    let middle = c.loop-low.low + (c.loop-low.high - c.loop-low.low) / 2 in
    let fits : middle < length c.args.numbers.now = omega (arith, c.loop-low-test.true, c.loop-low.invariant.within) in
    record {
      below = c.loop-low.invariant.below;
      till = not_in_front c.args.number c.args.numbers.now middle _ fits c.if-number-numbers.false;
      within = omega (arith, fits);
    }
