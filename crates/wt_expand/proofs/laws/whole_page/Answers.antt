use Rattle.wt_expand.proofs.PageLaws.{page_sources, page_has_no_calls}
use Rattle.wt_expand.proofs.laws.whole_page.Goals as goal

pub returns-clause-joined : goal.returns-clause-joined
returns-clause-joined c = page_sources

pub returns-clause-no_calls : goal.returns-clause-no_calls
returns-clause-no_calls c = page_has_no_calls
