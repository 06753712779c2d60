use Rattle.std.proofs.Common.{ap, arith, length, sym, ◌∙◌, ◌+◌, ◌∷◌, []}
use Rattle.wt_transclusion.specs.Cursors.{starts}
use Rattle.wt_template_stack.specs.Stacks.{stack}
use Rattle.wt_template_stack.specs.declared.level.Level.{Level}
use Rattle.wt_template_stack.proofs.MeasureLaws.{all_brought, none_brought}
use Rattle.wt_template_stack.proofs.StepLaws.{holds, level_begins}
use Rattle.wt_template_stack.specs.Measures.{bytes_left, steps_behind, steps_behind_all}
use Rattle.wt_template_stack.proofs.run.TextRun.begin_level.Goals as goal

pub returns-clause-answer : goal.returns-clause-answer
returns-clause-answer c = λ r t total h.
    let level : Level = record { end = c.args.end; out = []; task = c.args.task } in
    holds r t _ c.args.at (starts t c.args.at) (level ∷ stack c.args.self.now.levels) total
    (c.seek-self.ensures.reading r.mode t h.place h.at_start h.running.reading h.before) h.running.mode_is
    (c.in_ok-push.ensures ∙ ap (λ o. let l : Level = record { end = c.args.end; out = o; task = c.args.task } in l ∷ stack c.args.self.now.levels)
    c.new.ensures)
    (level_begins r t c.args.self.now c.args.at (starts t c.args.at) c.args.end c.args.task total h)

pub returns-clause-gets_on : goal.returns-clause-gets_on
returns-clause-gets_on c =
    let k = steps_behind c.args.task in
    let b = steps_behind_all (stack c.args.self.now.levels) in
    let some = c.is_done.ensures.some c.if-is_done.false in
    (c.seek-self.ensures.later, ap steps_behind_all c.in_ok-push.ensures ∙ ap (λ n. n + b) (sym (all_brought (bytes_left c.args.self.now.reader) k some)))

pub returns-then-is_done-clause-answer : goal.returns-then-is_done-clause-answer
returns-then-is_done-clause-answer c = λ r t total h.
    let none = c.is_done.ensures.none c.if-is_done.true in
    let here = h.running.reading.at.at_is in
    let long = ap length h.running.reading.read.text_is in
    let some = h.some in
    absurd (omega (arith, none, here, long, some))

pub returns-then-is_done-clause-gets_on : goal.returns-then-is_done-clause-gets_on
returns-then-is_done-clause-gets_on c =
    let k = steps_behind c.args.task in
    let none = c.is_done.ensures.none c.if-is_done.true in
    (omega (arith, none), (let z = none_brought (bytes_left c.args.self.now.reader) k none in omega (arith, z)))
