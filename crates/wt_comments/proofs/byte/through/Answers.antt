use Rattle.std.proofs.Common.{sym, ap, ◌∙◌, arith, nat_eq}
use Rattle.std.specs.List.{starts_with}
use Rattle.wt_comments.proofs.Words.{through_more, through_here}
use Rattle.wt_comments.proofs.byte.through.Goals as goal

pub loop-at-preserved : goal.loop-at-preserved
loop-at-preserved c =
    let more = through_more c.args.word.now c.args.bytes.now c.loop-at.at (omega arith)
    (ap (λ t. starts_with nat_eq t c.args.word.now) (sym c.rest_of.ensures) ∙ sym c.if-starts_with.ensures.value) in
    omega arith

pub returns-then-starts_with-clause-value : goal.returns-then-starts_with-clause-value
returns-then-starts_with-clause-value c =
    let here = through_here c.args.word.now c.args.bytes.now c.loop-at.at (omega arith)
    (ap (λ t. starts_with nat_eq t c.args.word.now) (sym c.rest_of.ensures) ∙ sym c.if-starts_with.ensures.value) in
    omega arith
