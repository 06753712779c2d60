use Rattle.wt_braces.proofs.Reached.{lexemes_have_braces}
use Rattle.wt_braces.proofs.laws.lexemes_have_braces.Goals as goal

pub returns : goal.returns
returns c = lexemes_have_braces
