use Rattle.wt_called_edit_laws.proofs.Whole.Pieced.{pieced_content, pieced_holds}
use Rattle.wt_called_edit_laws.proofs.in_pieces.paragraphs_in_pieces_may_be_edited.Goals as goal

pub returns-clause-content : goal.returns-clause-content
returns-clause-content c = pieced_content

pub returns-clause-calls : goal.returns-clause-calls
returns-clause-calls c = pieced_holds
