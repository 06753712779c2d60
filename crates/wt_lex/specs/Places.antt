-- Lexemes with their places.
use Rattle.std.specs.Prelude.{◌≡◌, ℕ, ◌-◌, List, [], ◌∷◌}
use Rattle.std.specs.Str.{IsCharBoundary}
use Rattle.wt_span.specs.Lexemes.{Word}
use Rattle.wt_lex.specs.declared.lexeme.Lexeme.{Lexeme}

-- a lexeme without its place
abbrev pub word_of : Lexeme → Word
word_of x = (x.kind, x.at.end - x.at.start)

-- the lexemes follow one another from a place to another: each begins where the one before ends
abbrev pub Follow : ℕ → List Lexeme → ℕ → Type 0
Follow from [] to = from ≡ to
Follow from (x ∷ xs) to = (x.at.start ≡ from) × Follow x.at.end xs to

-- the text can be cut at both ends of a lexeme
abbrev pub AtBorders : List ℕ → Lexeme → Type 0
AtBorders text x = IsCharBoundary text x.at.start × IsCharBoundary text x.at.end
