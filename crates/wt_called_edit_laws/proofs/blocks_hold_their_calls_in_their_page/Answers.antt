-- Blocks hold their calls in their page.
use Rattle.wt_called_edit_laws.proofs.Written.AllHeld.{all_hold, written_anywhere, calm_anywhere}
use Rattle.wt_called_edit_laws.proofs.blocks_hold_their_calls_in_their_page.Goals as goal

pub returns-clause-all : goal.returns-clause-all
returns-clause-all c = all_hold

pub returns-clause-written : goal.returns-clause-written
returns-clause-written c = written_anywhere

pub returns-clause-calm : goal.returns-clause-calm
returns-clause-calm c = calm_anywhere
