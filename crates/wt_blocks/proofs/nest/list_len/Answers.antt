use Rattle.std.proofs.Common.{◌+◌, ◌<◌, [], get_or, length, sym, ap, ◌∙◌, arith}
use Rattle.wt_blocks.specs.Slices.{one_list_at}
use Rattle.wt_blocks.proofs.Fronts.{front_at, front_all, read_as}
use Rattle.wt_blocks.proofs.nest.list_len.Goals as goal

pub returns-then-not-is_one_list-clause-front : goal.returns-then-not-is_one_list-clause-front
returns-then-not-is_one_list-clause-front c =
    let ps = c.args.prefixes.now in
    let i = c.loop-i.i in
    let within : i + 1 < length ps = omega arith in
    let this = read_as ps i c.index-prefixes-i.result [] (omega arith) c.index-prefixes-i.is in
    let next = read_as ps (i + 1) c.index-prefixes-i-in-loop-i.result [] within c.index-prefixes-i-in-loop-i.is in
    front_at (one_list_at c.args.depth) ps i [] within c.loop-i.invariant
    (ap (λ p. one_list_at c.args.depth p (get_or ps (i + 1) [])) this ∙ ap (one_list_at c.args.depth c.index-prefixes-i.result)
    next ∙ sym c.is_one_list.ensures ∙ c.if-not-is_one_list.true)

pub returns-clause-front : goal.returns-clause-front
returns-clause-front c = front_all (one_list_at c.args.depth) c.args.prefixes.now [] c.requires.some (λ k h. c.loop-i.invariant k (omega arith))
