use Rattle.wt_functions.proofs.ChoiceLaws.{told_is_needed}
use Rattle.wt_functions.proofs.laws.nothing_behind_equal.Goals as goal

pub returns : goal.returns
returns c = told_is_needed c.args.chooser.now
