use Rattle.wt_inside_laws.proofs.EditsWithCalls.{marked_typed}
use Rattle.wt_inside_laws.proofs.local.marked_blocks_with_calls_make_nothing_else.Goals as goal

pub returns : goal.returns
returns c = marked_typed
