use Rattle.wt_html_grammar.proofs.Spaces.{one_place}
use Rattle.wt_html_grammar.proofs.laws.one_place.Goals as goal

pub returns : goal.returns
returns c = one_place
