use Rattle.wt_called_edit_laws.proofs.Headings.Pieced.{pieced_heading, pieced_heading_holds}
use Rattle.wt_called_edit_laws.proofs.in_pieces.headings_in_pieces_may_be_edited.Goals as goal

pub returns-clause-content : goal.returns-clause-content
returns-clause-content c = pieced_heading

pub returns-clause-calls : goal.returns-clause-calls
returns-clause-calls c = pieced_heading_holds
