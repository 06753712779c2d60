use Rattle.std.proofs.Common.{refl, sym, subst, false, arith}
use Rattle.wt_template_stack.specs.Runs.{BeginsLevel}
use Rattle.wt_template_stack.specs.Stacks.{stack}
use Rattle.wt_template_stack.specs.declared.level.Task.TheVariants as task
use Rattle.wt_template_stack.proofs.StepLaws.{target_begins}
use Rattle.wt_template_stack.proofs.MeasureLaws.{level_begun}
use Rattle.wt_template_stack.proofs.run.TextRun.begin_target.Goals as goal

pub returns-clause-answer : goal.returns-clause-answer
returns-clause-answer c = λ r t total h k nf.
    let part = c.first_part-target.result in
    let run = c.args.self.now in
    c.in_ok-begin_within.ensures.answer r t total
    (subst (λ s. BeginsLevel r t run part.at.start false part.at.end (task.Target c.args.call s) total) (sym h.running.reading.starts)
    (target_begins r t run run (stack run.levels) c.args.call total part h k nf c.first_part-target.ensures refl refl refl))

pub returns-clause-gets_on : goal.returns-clause-gets_on
returns-clause-gets_on c =
    let z = c.in_ok-begin_within.ensures.gets_on in
    level_begun _ _ _ _ _ z.0 z.1 c.requires (omega arith)
