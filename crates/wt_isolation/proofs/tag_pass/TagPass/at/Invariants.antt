use Rattle.std.proofs.Common.{◌≡◌}
use Rattle.wt_isolation.specs.Passes.{IsReadTo}
use Rattle.wt_isolation.proofs.tag_pass.TagPass.at.Given as goal

abbrev pub invariant-loop-i : goal.invariant-loop-i
invariant-loop-i l = (l.pass.place ≡ l.i) × IsReadTo l.page l.pass
