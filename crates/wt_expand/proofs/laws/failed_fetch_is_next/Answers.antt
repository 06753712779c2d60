use Rattle.wt_expand.proofs.FrontLaws.{failed_fetch_next}
use Rattle.wt_expand.proofs.laws.failed_fetch_is_next.Goals as goal

pub returns : goal.returns
returns c = failed_fetch_next
