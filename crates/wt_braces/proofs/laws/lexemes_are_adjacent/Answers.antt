use Rattle.wt_braces.proofs.Adjacent.{lexed_adjacent}
use Rattle.wt_braces.proofs.laws.lexemes_are_adjacent.Goals as goal

pub returns : goal.returns
returns c = lexed_adjacent
