-- Lexemes of a text follow one another.
use Rattle.std.proofs.Common.{ℕ, List, [], ◌∷◌, refl}
use Rattle.wt_lex.specs.declared.lexeme.Lexeme.{Lexeme}
use Rattle.wt_lex.specs.Places.{Follow}
use Rattle.wt_braces.specs.Found.{FollowFrom, AreAdjacent}

follow : (from to : ℕ) (xs : List Lexeme) → Follow from xs to → FollowFrom from xs
follow from to [] f = tt
follow from to (x ∷ xs) f = (f.0, follow x.at.end to xs f.1)

pub lexed_adjacent : (xs : List Lexeme) (from to : ℕ) → Follow from xs to → AreAdjacent xs
lexed_adjacent [] from to f = tt
lexed_adjacent (x ∷ xs) from to f = (refl, follow x.at.end to xs f.1)
