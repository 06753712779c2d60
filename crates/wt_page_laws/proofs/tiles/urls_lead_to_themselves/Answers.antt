use Rattle.wt_page_laws.proofs.Hrefs.{leads_to_itself}
use Rattle.wt_page_laws.proofs.tiles.urls_lead_to_themselves.Goals as goal

pub returns : goal.returns
returns c = leads_to_itself
