use Rattle.wt_called_edit_laws.proofs.EditableBlocks.{editable_calling, editable_with_calls}
use Rattle.wt_called_edit_laws.proofs.calling_pages.pages_whose_blocks_call_are_told_by_bytes.Goals as goal

pub returns-clause-calling : goal.returns-clause-calling
returns-clause-calling c = editable_calling

pub returns-clause-calm : goal.returns-clause-calm
returns-clause-calm c = editable_with_calls
