use Rattle.wt_page_laws.proofs.MarkedBodies.{document_fits}
use Rattle.wt_page_laws.proofs.MarkedText.{marked_text}
use Rattle.wt_page_laws.proofs.edit_marks.marks_are_read.Goals as goal

pub returns-clause-fits : goal.returns-clause-fits
returns-clause-fits c = document_fits

pub returns-clause-text : goal.returns-clause-text
returns-clause-text c = marked_text
