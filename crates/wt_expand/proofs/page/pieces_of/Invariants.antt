use Rattle.std.proofs.Common.{take}
use Rattle.wt_expand.specs.Made.{AreMade}
use Rattle.wt_expand.proofs.page.pieces_of.Given as goal

abbrev pub invariant-loop-lexeme : goal.invariant-loop-lexeme
invariant-loop-lexeme l = AreMade l.page l.pieces (take l.lexeme-index l.lexemes)
