use Rattle.wt_schema.proofs.FirstMisfits.{first_told, told_first, fit_told_all, no_root}
use Rattle.wt_schema.proofs.laws.first_misfit.Goals as goal

pub returns : goal.returns
returns c = record { told = first_told; only = told_first; all = fit_told_all; root = no_root }
