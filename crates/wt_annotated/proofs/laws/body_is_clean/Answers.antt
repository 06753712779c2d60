use Rattle.wt_annotated.proofs.Ends.{body_clean}
use Rattle.wt_annotated.proofs.laws.body_is_clean.Goals as goal

pub returns : goal.returns
returns c = body_clean
