-- Where lexemes begin and end.
use Rattle.std.specs.Prelude.{ℕ, ◌+◌, List, [], ◌∷◌, map}
use Rattle.wt_lex.specs.declared.lexeme.Lexeme.{Lexeme}
use Rattle.wt_lex.specs.Places.{word_of}

abbrev pub starts : List Lexeme → List ℕ
starts xs = map (λ x. x.at.start) xs

abbrev pub ends : List Lexeme → List ℕ
ends xs = map (λ x. x.at.end) xs

-- how many bytes the lexemes have, without their places
abbrev pub width : List Lexeme → ℕ
width [] = 0
width (x ∷ xs) = (word_of x).1 + width xs
