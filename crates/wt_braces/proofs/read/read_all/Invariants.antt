use Rattle.std.proofs.Common.{[], drop, map}
use Rattle.wt_span.specs.Braces.{reduced_onto}
use Rattle.wt_lex.specs.Places.{word_of}
use Rattle.wt_braces.specs.Found.{first_place}
use Rattle.wt_braces.specs.Reading.{Reading}
use Rattle.wt_braces.proofs.read.read_all.Given as goal

abbrev pub invariant-loop-lexeme : goal.invariant-loop-lexeme
invariant-loop-lexeme l = Reading (first_place l.fn.lexemes) (reduced_onto [] (map word_of l.fn.lexemes)) l.matching (drop l.lexeme-index l.lexemes)
