use Rattle.wt_functions.proofs.ChoiceLaws.{told_in_order, given_there}
use Rattle.wt_functions.proofs.laws.parts_in_order.Goals as goal

pub returns-clause-told : goal.returns-clause-told
returns-clause-told c = told_in_order c.args.chooser.now

pub returns-clause-given : goal.returns-clause-given
returns-clause-given c = given_there c.args.chooser.now
