use Rattle.wt_utf8.proofs.PlaceLaws.{same_place}
use Rattle.wt_utf8.proofs.laws.one_end.Goals as goal

pub returns-clause-one : goal.returns-clause-one
returns-clause-one c = same_place

pub returns-clause-none_in_text : goal.returns-clause-none_in_text
returns-clause-none_in_text c = λ bytes m u p. p.ill u
