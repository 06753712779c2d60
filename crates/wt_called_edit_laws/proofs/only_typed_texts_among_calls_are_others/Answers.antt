use Rattle.wt_called_edit_laws.proofs.SettledPages.{only_texts}
use Rattle.wt_called_edit_laws.proofs.only_typed_texts_among_calls_are_others.Goals as goal

pub returns : goal.returns
returns c pages ss behind = only_texts pages ss behind
