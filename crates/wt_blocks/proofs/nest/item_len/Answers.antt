use Rattle.std.proofs.Common.{◌+◌, ◌<◌, [], length, sym, ap, ◌∙◌, arith}
use Rattle.std.specs.Prelude.{nat_lt}
use Rattle.wt_blocks.specs.Slices.{one_item_at}
use Rattle.wt_blocks.proofs.Fronts.{front_at, front_all, read_as}
use Rattle.wt_blocks.proofs.nest.item_len.Goals as goal

pub returns-then-not-goes_on-clause-front : goal.returns-then-not-goes_on-clause-front
returns-then-not-goes_on-clause-front c =
    let ps = c.args.prefixes.now in
    let within : c.loop-i.i + 1 < length ps = omega arith in
    let next = read_as ps (c.loop-i.i + 1) c.index-prefixes-i.result [] within c.index-prefixes-i.is in
    front_at (one_item_at c.args.depth) ps c.loop-i.i [] within c.loop-i.invariant
    (ap (λ q. nat_lt (c.args.depth + 1) (length q)) next ∙ sym c.goes_on.ensures ∙ c.if-not-goes_on.true)

pub returns-clause-front : goal.returns-clause-front
returns-clause-front c = front_all (one_item_at c.args.depth) c.args.prefixes.now [] c.requires.some (λ k h. c.loop-i.invariant k (omega arith))
