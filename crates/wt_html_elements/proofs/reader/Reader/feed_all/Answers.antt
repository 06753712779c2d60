use Rattle.std.proofs.Common.{ap, length, length-drop, arith}
use Rattle.wt_html_elements.specs.Answer.{IsFed}
use Rattle.wt_html_elements.proofs.Answering.{some_fed, rest_fed}
use Rattle.wt_html_elements.proofs.reader.Reader.feed_all.Goals as goal

pub loop-at-preserved : goal.loop-at-preserved
loop-at-preserved c = record {
  within = omega (arith, c.in_ok-at.ensures.within, ap length c.rest_of.ensures, length-drop c.loop-at.at c.args.piece.now, c.loop-at.invariant.within);
  going = c.in_ok-at.ensures.going;
  count = omega (arith, c.in_ok-at.ensures.count, c.loop-at.invariant.count);
  fed = λ bytes h.
      some_fed (IsFed c.feed_some.new.self) bytes c.args.piece.now c.rest_of.result.now c.loop-at.at c.in_ok-at.field-0 c.rest_of.ensures
      (c.in_ok-at.ensures.fed _ (c.loop-at.invariant.fed bytes h));
}

pub returns-in_err-at-clause-fed : goal.returns-in_err-at-clause-fed
returns-in_err-at-clause-fed c = λ bytes h.
    rest_fed (IsFed c.feed_some.new.self) bytes c.args.piece.now c.rest_of.result.now c.loop-at.at c.rest_of.ensures
    (c.in_err-at.ensures.refused _ (c.loop-at.invariant.fed bytes h))
