use Rattle.wt_template_stack.specs.Readers.{IsReading}
use Rattle.std.proofs.Common.{ap, length, subst, sym, true, ◌∙◌}
use Rattle.wt_template_stack.proofs.StepLaws.{text_holds}
use Rattle.wt_template_stack.proofs.run.TextRun.of_text.Goals as goal

pub returns : goal.returns
returns c = λ r t spent m read.
    text_holds r t spent c.new.result _ (subst (λ x. IsReading r.mode t x 0 true) (sym c.new.ensures.reader) (c.start.ensures r.mode t read))
    (c.new.ensures.mode ∙ m) c.new.ensures.levels (ap length read.text_is)
