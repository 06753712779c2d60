use Rattle.std.proofs.Common.{ap, ◌∙◌}
use Rattle.wt_functions.specs.Choice.{Telling}
use Rattle.wt_template_stack.proofs.AskedParts.{parts_asked}
use Rattle.wt_functions.specs.Choice.{asked, is_tell}
use Rattle.wt_template_stack.proofs.FirstAsked.{first_asked}
use Rattle.wt_template_stack.proofs.choosing.Choosing.start.Goals as goal

pub invariant_of-result : goal.invariant_of-result
invariant_of-result c = record {
  asks = ap (λ x. is_tell (asked x)) c.in_ok-start.ensures ∙ ap is_tell (first_asked c.args.function c.in_ok-equals.equals);
  parts = parts_asked c.in_ok-start.field-0 c.args.call.parts.now c.args.call.some (ap (λ (t : Telling). t.equals) c.in_ok-start.ensures ∙ c.in_ok-equals.ensures);
}
