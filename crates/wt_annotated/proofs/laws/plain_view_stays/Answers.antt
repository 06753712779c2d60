use Rattle.wt_annotated.proofs.AnnotatedTree.{annotated_plain, grouped_plain}
use Rattle.wt_annotated.proofs.laws.plain_view_stays.Goals as goal

pub returns : goal.returns
returns c = record { groups = grouped_plain; numbers = annotated_plain }
