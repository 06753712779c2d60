use Rattle.wt_html_elements.proofs.Keeping.{kept_once}
use Rattle.wt_html_elements.proofs.laws.one_kept.Goals as goal

pub returns : goal.returns
returns c = kept_once
