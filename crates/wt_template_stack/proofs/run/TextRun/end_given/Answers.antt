use Rattle.std.proofs.Common.{ap, ◌∙◌}
use Rattle.wt_span.specs.Items.{items}
use Rattle.wt_expand.specs.Expansion.{with_break}
use Rattle.wt_expand.specs.Texts.{trimmed_items}
use Rattle.wt_template_stack.proofs.ChoiceSteps.{given_returns}
use Rattle.wt_template_stack.proofs.run.TextRun.end_given.Goals as goal

pub returns-clause-answer : goal.returns-clause-answer
returns-clause-answer c = λ r t total h.
    c.give.ensures.answer r t total
    (given_returns r t c.args.self.now c.args.call c.args.at_start c.args.out c.as_slice-2.result.now total h
    (ap items c.as_slice-2.ensures ∙ c.in_ok-out-2.ensures ∙ ap (λ ps. with_break c.args.at_start ps) (c.in_ok-out.ensures ∙ ap (λ ps. trimmed_items (items ps)) c.as_slice.ensures)))
