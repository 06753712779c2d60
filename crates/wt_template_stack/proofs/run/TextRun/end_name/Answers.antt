use Rattle.std.proofs.Common.{ap, ◌∙◌, arith}
use Rattle.wt_span.specs.Items.{items}
use Rattle.wt_expand.specs.Texts.{name_text}
use Rattle.wt_template_stack.proofs.PartSteps.{name_begun}
use Rattle.wt_template_stack.proofs.MeasureLaws.{level_follows}
use Rattle.wt_template_stack.proofs.run.TextRun.end_name.Goals as goal

pub returns-clause-answer : goal.returns-clause-answer
returns-clause-answer c = λ r t total h.
    c.in_ok-begin_level.ensures.answer r t total
    (name_begun r t c.args.self.now c.args.pending c.args.end c.args.out c.in_ok-name_text.field-0 c.saturating_add-at.result total h
    (c.in_ok-name_text.ensures ∙ ap (λ ps. name_text (items ps)) c.as_slice.ensures) (omega arith) c.saturating_add-at.ensures)

pub returns-clause-gets_on : goal.returns-clause-gets_on
returns-clause-gets_on c =
    let z = c.in_ok-begin_level.ensures.gets_on in
    level_follows _ _ _ _ _ z.0 z.1 (omega arith)
