use Rattle.std.proofs.Common.{ap, ◌∙◌}
use Rattle.wt_span.specs.Items.{items}
use Rattle.wt_template_stack.proofs.CallSteps.{page_returns}
use Rattle.wt_template_stack.proofs.run.TextRun.give_page.Goals as goal

pub returns-clause-answer : goal.returns-clause-answer
returns-clause-answer c = λ r t total h.
    c.give.ensures.answer r t total
    (page_returns r t c.args.self.now c.args.call.at.end c.args.at_start c.args.given c.as_slice.result.now total h
    (ap items c.as_slice.ensures ∙ c.in_ok-out.ensures))
