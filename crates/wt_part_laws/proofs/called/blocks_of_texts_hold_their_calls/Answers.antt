-- A block of texts, of which calls give some, holds its calls, and so does each block of the page alone.
use Rattle.wt_part_laws.proofs.HeldBlocks.{own_holds, texts_hold, block_is}
use Rattle.wt_part_laws.proofs.called.blocks_of_texts_hold_their_calls.Goals as goal

pub returns-clause-holds : goal.returns-clause-holds
returns-clause-holds c = texts_hold

pub returns-clause-block : goal.returns-clause-block
returns-clause-block c = block_is

pub returns-clause-own : goal.returns-clause-own
returns-clause-own c = own_holds
