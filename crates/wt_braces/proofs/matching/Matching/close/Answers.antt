use Rattle.std.proofs.Common.{◌-◌, arith}
use Rattle.wt_span.specs.Braces.{rewritten, again}
use Rattle.wt_braces.proofs.Closings.{leads_more, can_take, take_order, done_few, done_none}
use Rattle.wt_braces.proofs.matching.Matching.close.Goals as goal

pub returns-in_default : goal.returns-in_default
returns-in_default c = λ from before s.
    let n = c.args.at.end - c.args.at.start in
    done_none from n c.loop-place.place c.args.at.end before c.loop-place.self c.pop_run.new.self
    (c.loop-place.invariant.leads from before s) c.loop-place.invariant.order c.in_default.ensures.0 c.in_default.ensures.1

pub close_call-requires : goal.close_call-requires
close_call-requires c =
    let n = c.args.at.end - c.args.at.start in
    let h = c.loop-place.invariant.leads c.requires.at c.requires.before c.requires.stands in
    can_take c.requires.at (again n rewritten (n, c.requires.before)) c.pop_run.new.self c.loop-place.self c.loop-place.place
    c.args.at.end c.braces_taken-braces.result c.in-Some.run' h c.in-Some.ensures c.loop-place-test.true c.braces_taken-braces.ensures

pub loop-place-preserved : goal.loop-place-preserved
loop-place-preserved c =
    let n = c.args.at.end - c.args.at.start in
    let some = c.loop-place.invariant.leads c.requires.at c.requires.before c.requires.stands in
    record {
      order = take_order c.requires.at (again n rewritten (n, c.requires.before)) c.pop_run.new.self c.loop-place.self
          c.loop-place.place c.args.at.end c.braces_taken-braces.result c.in-Some.run' some c.in-Some.ensures c.loop-place-test.true
          c.braces_taken-braces.ensures;
      leads = λ from before s.
          leads_more from (again n rewritten (n, before)) c.pop_run.new.self c.loop-place.self c.close_call.new.self
          c.loop-place.place c.args.at.end c.braces_taken-braces.result c.in-Some.run'
          (c.loop-place.invariant.leads from before s) c.in-Some.ensures c.loop-place-test.true c.braces_taken-braces.ensures
          c.in_ok-close_call.ensures;
    }

pub returns : goal.returns
returns c = λ from before s.
    let n = c.args.at.end - c.args.at.start in
    done_few from n c.loop-place.place c.args.at.end before c.loop-place.self
    (c.loop-place.invariant.leads from before s) c.loop-place.invariant.order (omega (arith, c.loop-place-test.false))
