use Rattle.wt_called_edit_laws.proofs.Cells.TakenParagraphs.{body_whole, body_texts, body_contents}
use Rattle.wt_called_edit_laws.proofs.body_paragraphs.paragraphs_of_the_body_are_edited.Goals as goal

pub returns-clause-whole : goal.returns-clause-whole
returns-clause-whole c = body_whole

pub returns-clause-texts : goal.returns-clause-texts
returns-clause-texts c = body_texts

pub returns-clause-contents : goal.returns-clause-contents
returns-clause-contents c = body_contents
