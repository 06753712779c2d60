use Rattle.wt_html_reasons.proofs.First.{holds, first_reason, only}
use Rattle.wt_html_reasons.proofs.laws.first_reason.Goals as goal

pub returns : goal.returns
returns c = record { holds = holds; first = first_reason; only = only }
