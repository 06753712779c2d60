-- The parts of a table by the groups of its rows.
use Rattle.std.specs.Prelude.{Bool, true, false, List, [], ◌∷◌, ◌++◌, take, drop}
use Rattle.std.specs.List.{flat_map}
use Rattle.wt_tree.specs.declared.kind.Kind.TheVariants as kind
use Rattle.wt_span.specs.Runs.{runs}
use Rattle.wt_lines.specs.declared.kind.LineKind.{LineKind}
use Rattle.wt_tables.specs.Parts.{unit_kind, is_row}
use Rattle.wt_inline.specs.ItemTree.{plain}
use Rattle.wt_page.specs.Rows.{Row, kind_of}
use Rattle.wt_page.specs.Stretches.{Stretch, enclosed}
use Rattle.wt_page.specs.Tables.{Reading, cell_stretches, row_by}
use Rattle.wt_rows.specs.Groups.{goes_on, captions_count}

abbrev pub row_groups : {A : Type 0} → (A → LineKind) → List (List A) → List (List (List A))
row_groups kind_of gs = runs (λ g h. goes_on kind_of h) gs

-- a row of the table, of which the first group opens it or has cells
abbrev pub row_with : Reading → Bool → List Row → List (List Row) → List Stretch
row_with read true g gs = row_by g (flat_map (cell_stretches read false) gs)
row_with read false g gs = row_by [] (flat_map (cell_stretches read false) (g ∷ gs))

abbrev pub row_of_groups : Reading → List (List Row) → List Stretch
row_of_groups read [] = row_by [] []
row_of_groups read (g ∷ gs) = row_with read (is_row (unit_kind kind_of g)) g gs

abbrev pub rows_of_groups : Reading → List (List Row) → List Stretch
rows_of_groups read gs = flat_map (row_of_groups read) (row_groups kind_of gs)

abbrev pub body_of_groups : Reading → List (List Row) → List Stretch
body_of_groups read [] = []
body_of_groups read (g ∷ gs) = enclosed (plain kind.Tbody) (rows_of_groups read (g ∷ gs))

-- what is in a table after its open delimiter
abbrev pub inside_groups : Reading → List (List Row) → List Stretch
inside_groups read gs = flat_map (cell_stretches read true) (take (captions_count kind_of gs) gs) ++ body_of_groups read (drop (captions_count kind_of gs) gs)
