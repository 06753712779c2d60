use Rattle.wt_names.proofs.Links.{links_back}
use Rattle.wt_names.proofs.laws.links_lead_back.Goals as goal

pub returns : goal.returns
returns c = links_back
