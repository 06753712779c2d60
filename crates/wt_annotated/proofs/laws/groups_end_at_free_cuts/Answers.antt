use Rattle.wt_annotated.proofs.Ends.{stand}
use Rattle.wt_annotated.proofs.laws.groups_end_at_free_cuts.Goals as goal

pub returns : goal.returns
returns c = record { ends = λ all n t e. (stand all n t e).1; fills = λ all n t e. (stand all n t e).0 }
