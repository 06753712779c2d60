-- The cells of a line as a relation: how they cut it.
use Rattle.std.specs.Prelude.{◌≡◌, ◌<◌, ◌≤◌, ℕ, Bool, true, false, List, [], ◌∷◌, ◌++◌, length, drop}
use Rattle.wt_span.specs.Items.{Item}
use Rattle.wt_lines.specs.declared.kind.LineKind.{LineKind}
use Rattle.wt_lines.specs.declared.kind.LineKind.TheVariants as kind
use Rattle.wt_tables.specs.declared.scan.Splits.{Splits}
use Rattle.wt_tables.specs.Cells.{splits_at}

-- no sign of a further cell begins at these places
abbrev pub NoneSplits : Splits → ℕ → ℕ → List Item → Type 0
NoneSplits by from to xs = (k : ℕ) → from ≤ k → k < to → splits_at by (drop k xs) ≡ false

-- The lists join to the items; each has its sign at the front, the first one of `n` items and each further one a splitting
-- sign of two; and after its sign no splitting sign begins in it.
abbrev pub AreCut : Splits → ℕ → List (List Item) → List Item → Type 0
AreCut by n [] xs = ⊥
AreCut by n (p ∷ []) xs = (xs ≡ p) × NoneSplits by n (length p) xs
AreCut by n (p ∷ q ∷ ps) xs = (others : List Item) × (xs ≡ p ++ others) × (n ≤ length p) × NoneSplits by n
    (length p) xs × (splits_at by others ≡ true) × AreCut by 2 (q ∷ ps) others

-- lines whose cells are read
abbrev pub has_cells : LineKind → Bool
has_cells kind.Blank = false
has_cells kind.TableOpen = false
has_cells kind.TableEnd = false
has_cells kind.Caption = true
has_cells kind.Row = false
has_cells kind.Cell = true
has_cells kind.Header = true
has_cells kind.Heading = false
has_cells kind.Rule = false
has_cells kind.List = false
has_cells kind.Pre = false
has_cells kind.Text = false
