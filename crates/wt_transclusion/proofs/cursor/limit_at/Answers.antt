use Rattle.std.proofs.Common.{ap, sym, ◌∙◌, min}
use Rattle.wt_transclusion.proofs.CursorLaws.{limit_some, limit_end}
use Rattle.wt_transclusion.proofs.cursor.limit_at.Goals as goal

pub returns-then-call-calls-clause-limit : goal.returns-then-call-calls-clause-limit
returns-then-call-calls-clause-limit c = limit_some c.args.calls.now c.args.call c.args.end c.min.result c.index-calls-call.result c.if-call-calls.true c.index-calls-call.is
    (c.min.ensures ∙ ap (λ y. min y.at.start c.args.end) (sym c.index-calls-call.is))

pub returns-else-call-calls-clause-limit : goal.returns-else-call-calls-clause-limit
returns-else-call-calls-clause-limit c = limit_end c.args.calls.now c.args.call c.args.end c.if-call-calls.false
