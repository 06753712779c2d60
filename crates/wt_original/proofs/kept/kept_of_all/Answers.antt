use Rattle.std.proofs.Common.{arith}
use Rattle.std.proofs.lemmas.Grind.{common_steps}
use Rattle.wt_original.proofs.kept.kept_of_all.Goals as goal

pub loop-entry-preserved : goal.loop-entry-preserved
loop-entry-preserved c = λ block h. grind (arith, common_steps, c.loop-entry.invariant block h, c.in_ok-kept_of.ensures block h)

pub returns : goal.returns
returns c = λ block h. grind (arith, common_steps, c.loop-entry.invariant block h)
