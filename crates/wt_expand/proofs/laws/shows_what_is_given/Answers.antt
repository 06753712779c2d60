use Rattle.wt_expand.proofs.Given.{shows_what_is_given}
use Rattle.wt_expand.proofs.laws.shows_what_is_given.Goals as goal

pub returns : goal.returns
returns c = shows_what_is_given
