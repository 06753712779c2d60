use Rattle.std.proofs.Common.{refl}
use Rattle.wt_transclusion.specs.Cursors.{starts}
use Rattle.wt_template_stack.specs.Stacks.{stack}
use Rattle.wt_template_stack.proofs.StepLaws.{holds}
use Rattle.wt_template_stack.proofs.MeasureLaws.{not_behind, read_on}
use Rattle.wt_template_stack.proofs.run.TextRun.resume.Goals as goal

pub returns-clause-answer : goal.returns-clause-answer
returns-clause-answer c = λ r t total p s running before h.
    holds r t _ c.args.to (starts t c.args.to) (stack c.args.self.now.levels) total
    (c.seek-self.ensures.reading r.mode t p s running.reading before) running.mode_is refl h

pub returns-clause-gets_on : goal.returns-clause-gets_on
returns-clause-gets_on c = not_behind _ _ _ c.seek-self.ensures.later

pub returns-clause-later : goal.returns-clause-later
returns-clause-later c = λ some. read_on _ _ _ c.seek-self.ensures.later some
