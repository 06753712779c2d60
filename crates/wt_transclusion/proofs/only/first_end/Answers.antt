use Rattle.std.proofs.Common.{ap, sym, ◌∙◌}
use Rattle.wt_expand.specs.Templates.{ends_only}
use Rattle.wt_transclusion.specs.Only.{first_at}
use Rattle.wt_transclusion.proofs.Firsts.{shifted_zero, first_here, first_after}
use Rattle.wt_transclusion.proofs.only.first_end.Goals as goal

pub loop-at-init : goal.loop-at-init
loop-at-init c = shifted_zero (first_at ends_only c.args.bytes.now)

pub loop-at-preserved : goal.loop-at-preserved
loop-at-preserved c =
    first_after ends_only c.args.bytes.now c.loop-at.at c.loop-at-test.true (ap ends_only (sym c.rest_of.ensures) ∙ sym c.ends_only.ensures
    ∙ c.if-ends_only.false) ∙ c.loop-at.invariant

pub returns-then-ends_only : goal.returns-then-ends_only
returns-then-ends_only c =
    sym (first_here ends_only c.args.bytes.now c.loop-at.at c.loop-at-test.true (ap ends_only (sym c.rest_of.ensures) ∙ sym c.ends_only.ensures
    ∙ c.if-ends_only.true)) ∙ c.loop-at.invariant
