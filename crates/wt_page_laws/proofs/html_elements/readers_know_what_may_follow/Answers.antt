use Rattle.wt_page_laws.proofs.OneAnswer.{counts, go_on_alike, stays_failed}
use Rattle.wt_page_laws.proofs.html_elements.readers_know_what_may_follow.Goals as goal

pub returns-clause-count : goal.returns-clause-count
returns-clause-count c = counts

pub returns-clause-alike : goal.returns-clause-alike
returns-clause-alike c = go_on_alike

pub returns-clause-failed : goal.returns-clause-failed
returns-clause-failed c = stays_failed
