use Rattle.std.proofs.Common.{◌≡◌}
use Rattle.wt_gen.specs.Gen.{sections}
use Rattle.wt_gen.proofs.page.page_of.Given as goal

abbrev pub invariant-loop-number : goal.invariant-loop-number
invariant-loop-number l = l.page ≡ sections l.number
