-- Words on lexemes.
use Rattle.std.specs.Prelude.{ℕ, ◌+◌, List, [], ◌∷◌}
use Rattle.wt_span.specs.Lexemes.{Word}

-- how many bytes lexemes take
abbrev pub total_width : List Word → ℕ
total_width [] = 0
total_width (w ∷ ws) = w.1 + total_width ws
