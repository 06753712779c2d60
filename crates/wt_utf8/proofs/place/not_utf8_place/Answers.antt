use Rattle.wt_utf8.proofs.PlaceLaws.{at_place}
use Rattle.wt_utf8.proofs.place.not_utf8_place.Goals as goal

pub returns-in-Err-clause-exact : goal.returns-in-Err-clause-exact
returns-in-Err-clause-exact c = at_place c.args.bytes.now c.in-Err.place c.in-Err.ensures.place
