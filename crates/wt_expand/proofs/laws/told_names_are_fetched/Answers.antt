use Rattle.wt_expand.proofs.FrontLaws.{fetched_are_told, told_are_fetched, told_once}
use Rattle.wt_expand.proofs.laws.told_names_are_fetched.Goals as goal

pub returns-clause-once : goal.returns-clause-once
returns-clause-once c = told_once

pub returns-clause-fetched : goal.returns-clause-fetched
returns-clause-fetched c = told_are_fetched

pub returns-clause-told : goal.returns-clause-told
returns-clause-told c = fetched_are_told
