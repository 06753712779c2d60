use Rattle.wt_span.proofs.RunLaws.{runs_are, runs_only}
use Rattle.wt_span.proofs.laws.one_cut.Goals as goal

pub returns-clause-are : goal.returns-clause-are
returns-clause-are g c = runs_are

pub returns-clause-only : goal.returns-clause-only
returns-clause-only g c = runs_only
