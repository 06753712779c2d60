use Rattle.wt_annotated.proofs.Walks.{walk_all}
use Rattle.wt_annotated.proofs.laws.groups_by_walking.Goals as goal

pub returns : goal.returns
returns c = walk_all
