use Rattle.wt_slices.proofs.BodyWalk.{no_parts, others_part, own_parts}
use Rattle.wt_slices.proofs.body.parts_with.Goals as goal

pub returns-then-not-is_separator : goal.returns-then-not-is_separator
returns-then-not-is_separator c = no_parts c.args.node.now c.args.others c.is_separator.result c.is_separator.ensures c.if-not-is_separator.true

pub returns-then-others : goal.returns-then-others
returns-then-others c =
    others_part c.args.node.now c.args.others c.is_separator.result c.is_separator.ensures c.if-not-is_separator.false c.if-others.true

pub returns : goal.returns
returns c =
    own_parts c.args.node.now c.args.others c.is_separator.result c.holds_break.result c.is_separator.ensures c.if-not-is_separator.false c.if-others.false
    c.holds_break.ensures
