use Rattle.wt_expand.proofs.Names.{asked_once, fetched_are_asked, asked_are_fetched, asked_in_order}
use Rattle.wt_expand.proofs.laws.names_are_asked_once.Goals as goal

pub returns-clause-once : goal.returns-clause-once
returns-clause-once c = asked_once

pub returns-clause-asked : goal.returns-clause-asked
returns-clause-asked c = fetched_are_asked

pub returns-clause-fetched : goal.returns-clause-fetched
returns-clause-fetched c = asked_are_fetched

pub returns-clause-in_order : goal.returns-clause-in_order
returns-clause-in_order c = asked_in_order
