use Rattle.wt_call_laws.proofs.Going.{gone_lies}
use Rattle.wt_call_laws.proofs.changed.what_goes_lies_in_a_place.Goals as goal

pub returns : goal.returns
returns c = gone_lies
