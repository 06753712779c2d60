use Rattle.wt_expand.proofs.TextLaws.{last_counts}
use Rattle.wt_expand.proofs.laws.last_value_counts.Goals as goal

pub returns : goal.returns
returns c = last_counts
