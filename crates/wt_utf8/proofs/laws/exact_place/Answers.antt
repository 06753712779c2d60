use Rattle.wt_utf8.proofs.PlaceLaws.{exact}
use Rattle.wt_utf8.proofs.laws.exact_place.Goals as goal

pub returns : goal.returns
returns c = exact
