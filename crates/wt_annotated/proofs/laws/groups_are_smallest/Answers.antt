use Rattle.wt_annotated.proofs.Smallest.{smallest}
use Rattle.wt_annotated.proofs.laws.groups_are_smallest.Goals as goal

pub returns : goal.returns
returns c = smallest
