use Rattle.wt_names.proofs.Links.{full_back, empty_is_none}
use Rattle.wt_names.proofs.laws.full_names_read_back.Goals as goal

pub returns-clause-title : goal.returns-clause-title
returns-clause-title c = full_back

pub returns-clause-empty : goal.returns-clause-empty
returns-clause-empty c = empty_is_none
