use Rattle.wt_annotated.proofs.AnnotatedTree.{without_calls, without_calls_or_cuts}
use Rattle.wt_annotated.proofs.NoGroups.{only_plain}
use Rattle.wt_annotated.proofs.laws.annotated_without_calls.Goals as goal

pub returns : goal.returns
returns c = record { anew = without_calls; same = without_calls_or_cuts; only = only_plain }
