use Rattle.wt_called_edit_laws.proofs.CallingSent.{page_made}
use Rattle.wt_called_edit_laws.proofs.calling_pages.edits_of_blocks_that_call_make_the_page.Goals as goal

pub returns : goal.returns
returns c = page_made
