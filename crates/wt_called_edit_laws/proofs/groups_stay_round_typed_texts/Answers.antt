use Rattle.wt_called_edit_laws.proofs.CleanAgain.{outside_again}
use Rattle.wt_called_edit_laws.proofs.GroupsAmong.{groups_among}
use Rattle.wt_called_edit_laws.proofs.groups_stay_round_typed_texts.Goals as goal

pub returns-clause-again : goal.returns-clause-again
returns-clause-again c = outside_again

pub returns-clause-stay : goal.returns-clause-stay
returns-clause-stay c = groups_among
