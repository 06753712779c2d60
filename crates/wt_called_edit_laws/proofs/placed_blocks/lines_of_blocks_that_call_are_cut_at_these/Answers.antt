use Rattle.wt_called_edit_laws.proofs.Among.CallingLines.{calling_whole, lined_calling, calling_editable}
use Rattle.wt_called_edit_laws.proofs.placed_blocks.lines_of_blocks_that_call_are_cut_at_these.Goals as goal

pub returns-clause-whole : goal.returns-clause-whole
returns-clause-whole c = calling_whole

pub returns-clause-blocks : goal.returns-clause-blocks
returns-clause-blocks c = lined_calling

pub returns-clause-editable : goal.returns-clause-editable
returns-clause-editable c = calling_editable
