use Rattle.wt_inside_laws.proofs.calling.retyped_blocks_that_call_fit.Goals as goal
use Rattle.wt_inside_laws.proofs.CallingEdits.{retyped_fits}

pub returns : goal.returns
returns c = retyped_fits
