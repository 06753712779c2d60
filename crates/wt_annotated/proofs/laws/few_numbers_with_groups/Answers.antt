use Rattle.wt_annotated.proofs.AnnotatedTree.{few_numbers}
use Rattle.wt_annotated.proofs.laws.few_numbers_with_groups.Goals as goal

pub returns : goal.returns
returns c = few_numbers
