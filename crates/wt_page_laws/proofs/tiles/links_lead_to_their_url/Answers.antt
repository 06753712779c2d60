use Rattle.wt_page_laws.proofs.Hrefs.{leads_to_url}
use Rattle.wt_page_laws.proofs.tiles.links_lead_to_their_url.Goals as goal

pub returns : goal.returns
returns c = leads_to_url
