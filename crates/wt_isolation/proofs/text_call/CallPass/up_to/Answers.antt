use Rattle.std.proofs.Common.{arith}
use Rattle.wt_isolation.proofs.Passing.{none_left_at, none_left_past}
use Rattle.wt_isolation.proofs.text_call.CallPass.up_to.Goals as goal

pub returns-then-call-place-clause-left : goal.returns-then-call-place-clause-left
returns-then-call-place-clause-left c = λ block ends.
    none_left_at c.args.calls.now c.loop-i.i c.loop-i.pass.passed c.index-calls-i.result c.args.place block c.requires.in_order c.loop-i.invariant.0
    c.loop-i-test.true c.index-calls-i.is c.if-call-place.true ends

pub returns-clause-left : goal.returns-clause-left
returns-clause-left c = λ block ends.
    let same = c.loop-i.invariant.0 in
    let past = c.loop-i-test.false in
    none_left_past c.args.calls.now c.loop-i.pass.passed block (omega (arith, same, past))
