use Rattle.wt_called_edit_laws.proofs.Parts.Retyped.{written_anew, expanded_again}
use Rattle.wt_called_edit_laws.proofs.pages_with_typed_texts_are_expanded_again.Goals as goal

pub returns-clause-typed : goal.returns-clause-typed
returns-clause-typed c = written_anew

pub returns-clause-again : goal.returns-clause-again
returns-clause-again c = expanded_again
