use Rattle.wt_html_grammar.proofs.Spaces.{before, behind}
use Rattle.wt_html_grammar.proofs.laws.white_space.Goals as goal

pub returns : goal.returns
returns c = record { before = before; behind = behind }
