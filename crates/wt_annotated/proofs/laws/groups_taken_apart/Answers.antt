use Rattle.wt_annotated.proofs.TakenApart.{taken_apart}
use Rattle.wt_annotated.proofs.laws.groups_taken_apart.Goals as goal

pub returns : goal.returns
returns c = taken_apart
