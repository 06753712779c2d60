use Rattle.wt_context.proofs.TileTargets.{have_targets}
use Rattle.wt_context.proofs.laws.links_lead_to_their_targets.Goals as goal

pub returns : goal.returns
returns c = have_targets
