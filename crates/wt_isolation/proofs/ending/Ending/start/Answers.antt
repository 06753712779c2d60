use Rattle.wt_isolation.proofs.Endings.{nothing_read}
use Rattle.wt_isolation.proofs.ending.Ending.start.Goals as goal

pub returns : goal.returns
returns c = nothing_read
