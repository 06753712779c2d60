use Rattle.wt_page_laws.proofs.OneHead.{one_body, one_row, body_or_misfit, row_or_misfit}
use Rattle.wt_page_laws.proofs.heads.heads_are_one.Goals as goal

pub returns-clause-body : goal.returns-clause-body
returns-clause-body c = one_body

pub returns-clause-row : goal.returns-clause-row
returns-clause-row c = one_row

pub returns-clause-no_body : goal.returns-clause-no_body
returns-clause-no_body c = body_or_misfit

pub returns-clause-no_row : goal.returns-clause-no_row
returns-clause-no_row c = row_or_misfit
