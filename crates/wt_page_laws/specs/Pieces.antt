-- Bytes after which the same may follow, and the node of a piece.
use Rattle.std.specs.Prelude.{◌↔◌, ℕ, List, ◌++◌}
use Rattle.wt_html_grammar.specs.Grammar.{Well}

-- the same makes both well-formed
abbrev pub GoOnAlike : List ℕ → List ℕ → Type 0
GoOnAlike bytes others = (more : List ℕ) → (Well (bytes ++ more)) ↔ (Well (others ++ more))
