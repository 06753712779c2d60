use Rattle.std.proofs.Common.{sym, ap, ◌∙◌, arith}
use Rattle.wt_span.specs.Bytes.{lower}
use Rattle.wt_span.specs.Tags.{closing_tag, len_if_named}
use Rattle.wt_lex.proofs.Closings.{closing_here, closing_more}
use Rattle.wt_lex.proofs.tag.to_closing.Goals as goal

pub returns-in-Some-clause-value : goal.returns-in-Some-clause-value
returns-in-Some-clause-value c =
    let is = sym (ap (λ t. len_if_named (lower c.args.name.now) (closing_tag t)) c.rest_of.ensures) ∙ sym c.in-Some.ensures.value in
    sym (closing_here (lower c.args.name.now) c.args.bytes.now c.loop-at.at c.in-Some.n (omega arith) is) ∙ c.loop-at.invariant

pub loop-at-preserved : goal.loop-at-preserved
loop-at-preserved c =
    let is = sym (ap (λ t. len_if_named (lower c.args.name.now) (closing_tag t)) c.rest_of.ensures) ∙ sym c.in_default.ensures.value in
    sym (closing_more (lower c.args.name.now) c.args.bytes.now c.loop-at.at (omega arith) is) ∙ c.loop-at.invariant
