-- Texts that are typed beside calls make nothing else.
use Rattle.wt_called_edit_laws.proofs.Beside.Apart.{calls_apart}
use Rattle.wt_called_edit_laws.proofs.Styles.Apart.{styles_apart}
use Rattle.wt_called_edit_laws.proofs.spelled_beside.typed_texts_beside_calls_make_nothing_else.Goals as goal

pub returns-clause-texts : goal.returns-clause-texts
returns-clause-texts c = calls_apart

pub returns-clause-styles : goal.returns-clause-styles
returns-clause-styles c = styles_apart
