use Rattle.std.proofs.Common.{ap, sym, ◌∙◌}
use Rattle.std.specs.Prelude.{slice_range}
use Rattle.wt_expand.specs.Targets.{is_function}
use Rattle.wt_template_stack.proofs.RestLaws.{spends_none}
use Rattle.wt_template_stack.proofs.StepLaws.{source_cut}
use Rattle.wt_template_stack.proofs.run.TextRun.begin.Goals as goal

pub returns-then-call-clause-answer : goal.returns-then-call-clause-answer
returns-then-call-clause-answer c = λ r t total h. c.begin_argument.ensures.answer r t total h c.if-call.true

pub returns-then-is_function-clause-answer : goal.returns-then-is_function-clause-answer
returns-then-is_function-clause-answer c = λ r t total h.
    c.begin_function.ensures.answer r t total h c.if-call.false
    (c.slice-source.ensures.bytes (source_cut r t c.args.self.now _ c.args.call total h) ∙ ap (λ xs. slice_range xs c.args.call.at.start c.args.call.at.end) h.running.reading.read.text_is)
    (ap is_function (sym (c.as_bytes.ensures.value ∙ c.as_str.ensures)) ∙ sym c.is_function.ensures ∙ c.if-is_function.true)

pub returns-clause-answer : goal.returns-clause-answer
returns-clause-answer c = λ r t total h. (
  total,
  spends_none c.args.spent.now total,
  c.in_ok-begin_target.ensures.answer r t total h c.if-call.false
      (ap is_function (sym (c.as_bytes.ensures.value ∙ c.as_str.ensures ∙ c.slice-source.ensures.bytes (source_cut r t c.args.self.now _ c.args.call total h)
      ∙ ap (λ xs. slice_range xs c.args.call.at.start c.args.call.at.end) h.running.reading.read.text_is)) ∙ sym c.is_function.ensures
      ∙ c.if-is_function.false),
)
