-- Paragraphs that are written for texts beside calls hold these.
use Rattle.wt_called_edit_laws.proofs.Written.Held.{written_gives, written_holds, written_block, written_shows}
use Rattle.wt_called_edit_laws.proofs.written_paragraphs_hold_their_calls.Goals as goal

pub returns-clause-gives : goal.returns-clause-gives
returns-clause-gives c = written_gives

pub returns-clause-holds : goal.returns-clause-holds
returns-clause-holds c = written_holds

pub returns-clause-block : goal.returns-clause-block
returns-clause-block c = written_block

pub returns-clause-shown : goal.returns-clause-shown
returns-clause-shown c = written_shows
