use Rattle.wt_page_laws.proofs.Asking.{told, joined}
use Rattle.wt_page_laws.proofs.asked.asked_names_stay.Goals as goal

pub returns-clause-told : goal.returns-clause-told
returns-clause-told c = told

pub returns-clause-joined : goal.returns-clause-joined
returns-clause-joined c = joined
