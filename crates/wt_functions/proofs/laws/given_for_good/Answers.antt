use Rattle.wt_functions.proofs.ChoiceLaws.{for_good}
use Rattle.wt_functions.proofs.laws.given_for_good.Goals as goal

pub returns : goal.returns
returns c = for_good c.args.chooser.now
