use Rattle.wt_html_reasons.proofs.First.{one_reason}
use Rattle.wt_html_reasons.proofs.laws.one_reason.Goals as goal

pub returns : goal.returns
returns c = one_reason
