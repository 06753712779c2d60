-- A paragraph of texts beside calls holds these.
use Rattle.wt_beside_laws.proofs.Groups.CalledBlocks.{called_holds, called_block}
use Rattle.wt_beside_laws.proofs.called.texts_beside_calls_hold_these.Goals as goal

pub returns-clause-holds : goal.returns-clause-holds
returns-clause-holds c = called_holds

pub returns-clause-block : goal.returns-clause-block
returns-clause-block c = called_block
