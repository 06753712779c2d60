-- A worked case of a table: lines are numbers with their kinds.
use Rattle.std.proofs.Common.{◌≡◌, refl, ℕ, List, [], ◌∷◌}
use Rattle.wt_lines.specs.declared.kind.LineKind.{LineKind}
use Rattle.wt_lines.specs.declared.kind.LineKind.TheVariants as kind
use Rattle.wt_tables.specs.Extents.{inner_len}
use Rattle.wt_tables.specs.Parts.{units, table_of}

abbrev kind_at : ℕ × LineKind → LineKind
kind_at l = l.1

-- a stray nested table, a blank line, a caption, a cell, a row with a cell
abbrev inside : List (ℕ × LineKind)
inside =
    (1, kind.TableOpen) ∷ (2, kind.Row) ∷ (3, kind.TableEnd) ∷ (4, kind.Blank) ∷ (5, kind.Caption) ∷ (6, kind.Cell) ∷ (7, kind.Row)
    ∷ (8, kind.Header) ∷ []

-- the nested table is one unit, and its row line begins no part of this one
nested_whole : units kind_at ((1, kind.TableOpen) ∷ (2, kind.Row) ∷ (3, kind.TableEnd) ∷ (4, kind.Blank) ∷ [])
    ≡ ((1, kind.TableOpen) ∷ (2, kind.Row) ∷ (3, kind.TableEnd) ∷ []) ∷ ((4, kind.Blank) ∷ []) ∷ []
unfolding inner_len
nested_whole = refl

its_parts : table_of kind_at (0, kind.TableOpen) inside ≡ record {
  opening = (0, kind.TableOpen) ∷ (1, kind.TableOpen) ∷ (2, kind.Row) ∷ (3, kind.TableEnd) ∷ [];
  between = (4, kind.Blank) ∷ [];
  captions = ((5, kind.Caption) ∷ []) ∷ [];
  rows =
      record { opening = []; between = []; cells = ((6, kind.Cell) ∷ []) ∷ [] }
      ∷ record { opening = (7, kind.Row) ∷ []; between = []; cells = ((8, kind.Header) ∷ []) ∷ [] }
      ∷ [];
}
unfolding inner_len
its_parts = refl
