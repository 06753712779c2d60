use Rattle.wt_span.specs.Bytes.{lower}
use Rattle.wt_inline.proofs.RawTags.{here_value, here_sign, more_value}
use Rattle.wt_inline.proofs.raw.before_closing.Goals as goal

pub returns-then-is_some-clause-value : goal.returns-then-is_some-clause-value
returns-then-is_some-clause-value c = here_value (lower c.args.name.now) c.args.bytes.now c.rest_of.result.now c.loop-at.at _
    c.closing_len.result c.loop-at-test.true c.rest_of.ensures c.closing_len.ensures.value c.is_some.ensures c.if-is_some.true
    c.loop-at.invariant

pub returns-then-is_some-clause-sign : goal.returns-then-is_some-clause-sign
returns-then-is_some-clause-sign c = λ h. here_sign (lower c.args.name.now) c.args.bytes.now c.rest_of.result.now c.loop-at.at _
    c.closing_len.result c.rest_of.ensures c.closing_len.ensures.value c.is_some.ensures c.if-is_some.true

pub loop-at-preserved : goal.loop-at-preserved
loop-at-preserved c = more_value (lower c.args.name.now) c.args.bytes.now c.rest_of.result.now c.loop-at.at _ c.closing_len.result
    c.loop-at-test.true c.rest_of.ensures c.closing_len.ensures.value c.is_some.ensures c.if-is_some.false c.loop-at.invariant
