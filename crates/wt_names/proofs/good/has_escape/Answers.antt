use Rattle.std.proofs.Common.{sym, ap, ◌∙◌}
use Rattle.wt_names.specs.Good.{begins_with_escape}
use Rattle.wt_names.proofs.Words.{anywhere_next}
use Rattle.wt_names.proofs.good.has_escape.Goals as goal

pub loop-at-preserved : goal.loop-at-preserved
loop-at-preserved c =
    let none = ap begins_with_escape (sym c.rest_of.ensures) ∙ sym c.begins_with_escape.ensures ∙ c.if-begins_with_escape.false in
    anywhere_next begins_with_escape c.args.name.now c.loop-at.at c.loop-at-test.true none ∙ c.loop-at.invariant
