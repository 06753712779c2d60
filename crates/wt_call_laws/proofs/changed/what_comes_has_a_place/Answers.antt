use Rattle.wt_call_laws.proofs.Touching.{come_places}
use Rattle.wt_call_laws.proofs.changed.what_comes_has_a_place.Goals as goal

pub returns : goal.returns
returns c = come_places
