use Rattle.wt_html_grammar.proofs.Telling.{stands_told, one_tree}
use Rattle.wt_html_grammar.proofs.laws.built_from_spelling.Goals as goal

pub returns : goal.returns
returns c = record { built = stands_told; one_tree = one_tree }
