use Rattle.wt_lex.proofs.Readings.{words_are, words_only}
use Rattle.wt_lex.proofs.laws.one_reading.Goals as goal

pub returns-clause-are : goal.returns-clause-are
returns-clause-are c = words_are

pub returns-clause-only : goal.returns-clause-only
returns-clause-only c = words_only
