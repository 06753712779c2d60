use Rattle.std.proofs.Common.{◌≡◌, map}
use Rattle.wt_span.specs.Origins.{span_of}
use Rattle.wt_isolation.specs.Passes.{ArePassed}
use Rattle.wt_isolation.proofs.text_call.CallPass.up_to.Given as goal

abbrev pub invariant-loop-i : goal.invariant-loop-i
invariant-loop-i l = (l.pass.passed ≡ l.i) × ArePassed (map span_of l.calls) l.pass × (l.pass.reached ≡ l.place)
