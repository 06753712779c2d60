use Rattle.std.proofs.Common.{arith}
use Rattle.wt_isolation.proofs.tag_pass.TagPass.start.Goals as goal

pub returns-clause-page : goal.returns-clause-page
returns-clause-page c = λ page. record { within = omega arith; ends = c.start.ensures }
