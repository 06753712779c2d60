use Rattle.wt_called_edit_laws.proofs.Written.FromPage.{beside_these, page_takes}
use Rattle.wt_called_edit_laws.proofs.in_pieces.paragraphs_of_the_page_take_texts_beside_calls.Goals as goal

pub returns-clause-beside : goal.returns-clause-beside
returns-clause-beside c = beside_these

pub returns-clause-anew : goal.returns-clause-anew
returns-clause-anew c = page_takes
