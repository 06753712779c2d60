use Rattle.wt_inside_laws.proofs.Meeting.{meets}
use Rattle.wt_inside_laws.proofs.edges.blocks_meet_plainly.Goals as goal

pub returns : goal.returns
returns c = meets
