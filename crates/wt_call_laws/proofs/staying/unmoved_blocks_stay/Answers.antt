use Rattle.wt_call_laws.proofs.Unmoved.{unmoved}
use Rattle.wt_call_laws.proofs.staying.unmoved_blocks_stay.Goals as goal

pub returns : goal.returns
returns c = unmoved
