use Rattle.wt_page_laws.proofs.Entries.{fronts}
use Rattle.wt_page_laws.proofs.folder.fetches_give_fronts.Goals as goal

pub returns-clause-found : goal.returns-clause-found
returns-clause-found c = fronts
