use Rattle.wt_called_edit_laws.proofs.Written.Letters.{page_letters, letters_again}
use Rattle.wt_called_edit_laws.proofs.in_pieces.letters_may_be_typed_before_calls.Goals as goal

pub returns-clause-page : goal.returns-clause-page
returns-clause-page c = page_letters

pub returns-clause-again : goal.returns-clause-again
returns-clause-again c = letters_again
