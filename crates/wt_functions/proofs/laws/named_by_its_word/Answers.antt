use Rattle.wt_functions.proofs.Naming.{naming}
use Rattle.wt_functions.proofs.laws.named_by_its_word.Goals as goal

pub returns : goal.returns
returns c = naming c.args.target.now
