use Rattle.wt_checks.proofs.FirstPlace.{answered}
use Rattle.wt_checks.proofs.laws.first_refusal.Goals as goal

pub returns : goal.returns
returns c = answered
