use Rattle.wt_page_laws.proofs.OneHead.{body_passes, row_passes}
use Rattle.wt_page_laws.proofs.heads.misfits_pass_heads.Goals as goal

pub returns-clause-body : goal.returns-clause-body
returns-clause-body c = body_passes

pub returns-clause-row : goal.returns-clause-row
returns-clause-row c = row_passes
