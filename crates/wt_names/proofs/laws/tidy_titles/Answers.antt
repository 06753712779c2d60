use Rattle.wt_names.proofs.Readings.{read_tidy}
use Rattle.wt_names.proofs.Links.{text_back}
use Rattle.wt_names.proofs.laws.tidy_titles.Goals as goal

pub returns-clause-read : goal.returns-clause-read
returns-clause-read c = read_tidy

pub returns-clause-back : goal.returns-clause-back
returns-clause-back c = text_back
