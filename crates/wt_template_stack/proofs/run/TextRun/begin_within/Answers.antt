use Rattle.std.proofs.Common.{ap, sym, ◌∙◌, ◌+◌, ◌∷◌, [], false}
use Rattle.wt_template_stack.specs.Stacks.{stack}
use Rattle.wt_template_stack.specs.declared.level.Level.{Level}
use Rattle.wt_template_stack.proofs.MeasureLaws.{all_brought}
use Rattle.wt_template_stack.proofs.StepLaws.{holds, level_begins}
use Rattle.wt_template_stack.specs.Measures.{bytes_left, steps_behind, steps_behind_all}
use Rattle.wt_template_stack.proofs.run.TextRun.begin_within.Goals as goal

pub returns-clause-answer : goal.returns-clause-answer
returns-clause-answer c = λ r t total h.
    let level : Level = record { end = c.args.part.at.end; out = []; task = c.args.task } in
    holds r t _ c.args.part.at.start false (level ∷ stack c.args.self.now.levels) total
    (c.within-self.ensures.reading r.mode t h.place h.at_start h.running.reading h.before) h.running.mode_is
    (c.in_ok-push.ensures ∙ ap (λ o. let l : Level = record { end = c.args.part.at.end; out = o; task = c.args.task } in l ∷ stack c.args.self.now.levels)
    c.new.ensures)
    (level_begins r t c.args.self.now c.args.part.at.start false c.args.part.at.end c.args.task total h)

pub returns-clause-gets_on : goal.returns-clause-gets_on
returns-clause-gets_on c =
    let k = steps_behind c.args.task in
    let b = steps_behind_all (stack c.args.self.now.levels) in
    (c.within-self.ensures.later, ap steps_behind_all c.in_ok-push.ensures ∙ ap (λ n. n + b) (sym (all_brought (bytes_left c.args.self.now.reader) k c.requires)))
