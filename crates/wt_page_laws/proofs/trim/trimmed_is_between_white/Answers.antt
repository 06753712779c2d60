use Rattle.wt_page_laws.proofs.Trimming.{trimmed_between}
use Rattle.wt_page_laws.proofs.trim.trimmed_is_between_white.Goals as goal

pub returns : goal.returns
returns c = trimmed_between
