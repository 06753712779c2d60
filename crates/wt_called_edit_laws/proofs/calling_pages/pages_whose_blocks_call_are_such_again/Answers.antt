use Rattle.wt_called_edit_laws.proofs.CallingPages.{calling_again}
use Rattle.wt_called_edit_laws.proofs.calling_pages.pages_whose_blocks_call_are_such_again.Goals as goal

pub returns : goal.returns
returns c = calling_again
