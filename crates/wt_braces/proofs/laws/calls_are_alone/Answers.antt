use Rattle.wt_braces.proofs.AloneLaws.{calls_are_alone, one_call}
use Rattle.wt_braces.proofs.laws.calls_are_alone.Goals as goal

pub returns-clause-alone : goal.returns-clause-alone
returns-clause-alone c = calls_are_alone

pub returns-clause-one_call : goal.returns-clause-one_call
returns-clause-one_call c = one_call
