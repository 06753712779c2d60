use Rattle.wt_call_laws.proofs.Touching.{changed_inside}
use Rattle.wt_call_laws.proofs.changed.changed_insides_are_places.Goals as goal

pub returns : goal.returns
returns c = changed_inside
