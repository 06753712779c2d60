use Rattle.wt_slices.proofs.BodyWalk.{mark_breaks, none_breaks, space_breaks}
use Rattle.wt_slices.proofs.body.holds_break.Goals as goal

pub returns-then-is_space : goal.returns-then-is_space
returns-then-is_space c =
    space_breaks c.args.node.now c.is_space.result c.has_break_in.result c.is_space.ensures c.if-is_space.true c.has_break_in.ensures

pub returns-then-is_mark : goal.returns-then-is_mark
returns-then-is_mark c =
    mark_breaks c.args.node.now c.is_space.result c.is_mark.result c.ends_with_break.result c.is_space.ensures c.if-is_space.false c.is_mark.ensures
    c.if-is_mark.true c.ends_with_break.ensures

pub returns : goal.returns
returns c = none_breaks c.args.node.now c.is_space.result c.is_mark.result c.is_space.ensures c.if-is_space.false c.is_mark.ensures c.if-is_mark.false
