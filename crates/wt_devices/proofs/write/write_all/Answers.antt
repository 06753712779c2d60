use Rattle.std.proofs.Common.{◌<◌, ◌∙◌, arith}
use Rattle.std.proofs.lemmas.Grind.{common_steps}
use Rattle.wt_devices.proofs.Fronts.{front_grows}
use Rattle.wt_devices.proofs.write.write_all.Goals as goal

pub loop-done-preserved : goal.loop-done-preserved
loop-done-preserved g c =
    let some : 0 < c.in-Ok.count = omega (arith, c.in-Ok.count-test.1) in
    record {
      within = grind (arith, common_steps, c.in-Ok.ensures.bound, c.loop-done.invariant.within, c.rest_of.ensures);
      kept = c.in-Ok.ensures.cause.kept some ∙ c.loop-done.invariant.kept;
      front = front_grows (g.W.Sink.taken c.args.out.now) (g.W.Sink.taken c.loop-done.out)
          (g.W.Sink.taken c.write.new.self) c.args.bytes.now c.rest_of.result.now c.loop-done.done c.in-Ok.count c.rest_of.ensures
          c.loop-done.invariant.front c.in-Ok.ensures.bytes;
    }
