use Rattle.wt_page_laws.proofs.ItemWalks.{opened_is, filled_is, closed_is}
use Rattle.wt_annotated.proofs.Progresses.{past_append}
use Rattle.wt_page_laws.proofs.walks.walks_go_over_their_items.Goals as goal

pub returns-clause-opened : goal.returns-clause-opened
returns-clause-opened c = opened_is

pub returns-clause-filled : goal.returns-clause-filled
returns-clause-filled c = filled_is

pub returns-clause-closed : goal.returns-clause-closed
returns-clause-closed c = closed_is

pub returns-clause-joined : goal.returns-clause-joined
returns-clause-joined c = past_append
