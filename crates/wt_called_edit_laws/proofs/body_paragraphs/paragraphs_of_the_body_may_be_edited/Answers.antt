use Rattle.wt_called_edit_laws.proofs.Cells.OwnParagraphs.{body_called}
use Rattle.wt_called_edit_laws.proofs.body_paragraphs.paragraphs_of_the_body_may_be_edited.Goals as goal

pub returns : goal.returns
returns c = body_called
