use Rattle.wt_visible.proofs.DifferingLaws.{differing_is, none_same}
use Rattle.wt_visible.proofs.laws.differing_is_first.Goals as goal

pub returns-clause-told : goal.returns-clause-told
returns-clause-told c = differing_is

pub returns-clause-same : goal.returns-clause-same
returns-clause-same c = none_same 1
