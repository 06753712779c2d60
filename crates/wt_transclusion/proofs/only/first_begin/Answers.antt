use Rattle.std.proofs.Common.{ap, sym, ◌∙◌}
use Rattle.wt_expand.specs.Templates.{begins_only}
use Rattle.wt_transclusion.specs.Only.{first_at}
use Rattle.wt_transclusion.proofs.Firsts.{shifted_zero, first_here, first_after}
use Rattle.wt_transclusion.proofs.only.first_begin.Goals as goal

pub loop-at-init : goal.loop-at-init
loop-at-init c = shifted_zero (first_at begins_only c.args.bytes.now)

pub loop-at-preserved : goal.loop-at-preserved
loop-at-preserved c =
    first_after begins_only c.args.bytes.now c.loop-at.at c.loop-at-test.true (ap begins_only (sym c.rest_of.ensures) ∙ sym c.begins_only.ensures
    ∙ c.if-begins_only.false) ∙ c.loop-at.invariant

pub returns-then-begins_only : goal.returns-then-begins_only
returns-then-begins_only c =
    sym (first_here begins_only c.args.bytes.now c.loop-at.at c.loop-at-test.true (ap begins_only (sym c.rest_of.ensures) ∙ sym c.begins_only.ensures
    ∙ c.if-begins_only.true)) ∙ c.loop-at.invariant
