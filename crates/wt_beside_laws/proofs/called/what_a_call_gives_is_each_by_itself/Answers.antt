-- What a call gives is each of its characters and forms by itself.
use Rattle.wt_beside_laws.proofs.Groups.GivenParts.{given_line}
use Rattle.wt_beside_laws.proofs.called.what_a_call_gives_is_each_by_itself.Goals as goal

pub returns : goal.returns
returns c = given_line
