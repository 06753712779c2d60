use Rattle.wt_called_edit_laws.proofs.Cells.TakenParagraphs.{body_styled}
use Rattle.wt_called_edit_laws.proofs.body_paragraphs.nodes_of_paragraphs_of_the_body_stay.Goals as goal

pub returns : goal.returns
returns c = body_styled
