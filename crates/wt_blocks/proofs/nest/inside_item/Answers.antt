use Rattle.std.proofs.Common.{◌+◌, length, [], sym, ap, ◌∙◌}
use Rattle.std.specs.Prelude.{nat_lt}
use Rattle.wt_blocks.proofs.Fronts.{read_as}
use Rattle.wt_blocks.proofs.Nests.{left_longer, left_shorter, inside_longer, inside_shorter}
use Rattle.wt_blocks.proofs.nest.inside_item.Goals as goal

pub returns-then-goes_on-clause-left : goal.returns-then-goes_on-clause-left
returns-then-goes_on-clause-left c =
    let first = read_as c.args.item.now 0 c.index-item-0.result [] c.requires.some c.index-item-0.is in
    left_longer c.args.depth c.args.item.now c.requires.front.0 c.requires.left c.requires.front.1
    (ap (λ p. nat_lt (c.args.depth + 1) (length p)) first ∙ sym c.goes_on.ensures ∙ c.if-goes_on.true)

pub returns-then-goes_on-clause-lines : goal.returns-then-goes_on-clause-lines
returns-then-goes_on-clause-lines c = λ number.
    let first = read_as c.args.item.now 0 c.index-item-0.result [] c.requires.some c.index-item-0.is in
    inside_longer number c.args.depth c.args.item.now c.requires.front.0 c.requires.front.1
    (ap (λ p. nat_lt (c.args.depth + 1) (length p)) first ∙ sym c.goes_on.ensures ∙ c.if-goes_on.true)

pub returns-else-goes_on-clause-left : goal.returns-else-goes_on-clause-left
returns-else-goes_on-clause-left c = left_shorter c.args.depth c.args.item.now c.rest_of.result.now c.requires.front.0
    c.rest_of.ensures c.requires.left c.requires.front.1

pub returns-else-goes_on-clause-lines : goal.returns-else-goes_on-clause-lines
returns-else-goes_on-clause-lines c = λ number.
    let first = read_as c.args.item.now 0 c.index-item-0.result [] c.requires.some c.index-item-0.is in
    inside_shorter number c.args.depth c.args.item.now c.rest_of.result.now c.requires.front.0 c.rest_of.ensures
    c.requires.front.1 (ap (λ p. nat_lt (c.args.depth + 1) (length p)) first ∙ sym c.goes_on.ensures ∙ c.if-goes_on.false)
