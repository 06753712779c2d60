use Rattle.wt_page_laws.proofs.Gathering.{are_gathered}
use Rattle.wt_page_laws.proofs.gather.groups_by_places.Goals as goal

pub returns : goal.returns
returns c = are_gathered
