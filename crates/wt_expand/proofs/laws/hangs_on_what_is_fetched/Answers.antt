use Rattle.wt_expand.proofs.Agreements.{same_page, same_work}
use Rattle.wt_expand.proofs.laws.hangs_on_what_is_fetched.Goals as goal

pub returns-clause-page : goal.returns-clause-page
returns-clause-page c = same_page

pub returns-clause-work : goal.returns-clause-work
returns-clause-work c = same_work
