use Rattle.wt_checks.proofs.Compares.{kinds_decide, attrs_decide, data_decide, entries_decide, signs_decide}
use Rattle.wt_checks.proofs.laws.comparisons.Goals as goal

pub returns : goal.returns
returns c = record { kinds = kinds_decide; attributes = attrs_decide; values = data_decide; held = entries_decide; shown = signs_decide }
