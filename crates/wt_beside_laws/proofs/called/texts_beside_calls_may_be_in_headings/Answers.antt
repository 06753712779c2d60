-- A heading of texts beside calls.
use Rattle.wt_beside_laws.proofs.Groups.CalledHeadings.{heading_inside, heading_level, heading_holds, heading_block}
use Rattle.wt_beside_laws.proofs.called.texts_beside_calls_may_be_in_headings.Goals as goal

pub returns-clause-inside : goal.returns-clause-inside
returns-clause-inside c = heading_inside

pub returns-clause-level : goal.returns-clause-level
returns-clause-level c = heading_level

pub returns-clause-holds : goal.returns-clause-holds
returns-clause-holds c = heading_holds

pub returns-clause-block : goal.returns-clause-block
returns-clause-block c = heading_block
