-- A block of what calls give holds its calls.
use Rattle.wt_part_laws.proofs.HeldBlocks.{given_hold, given_block_is}
use Rattle.wt_part_laws.proofs.called.blocks_of_what_calls_give_hold_these.Goals as goal

pub returns-clause-holds : goal.returns-clause-holds
returns-clause-holds c = given_hold

pub returns-clause-block : goal.returns-clause-block
returns-clause-block c = given_block_is
