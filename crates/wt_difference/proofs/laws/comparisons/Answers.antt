use Rattle.wt_difference.proofs.SameSeen.{inside_decides, children_decide}
use Rattle.wt_difference.proofs.laws.comparisons.Goals as goal

pub returns : goal.returns
returns c = record { insides = inside_decides; children = children_decide }
