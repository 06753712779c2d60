use Rattle.wt_call_laws.proofs.Bytes.{untouched_stay}
use Rattle.wt_call_laws.proofs.left_alone.untouched_bytes_stay.Goals as goal

pub returns : goal.returns
returns c = untouched_stay
