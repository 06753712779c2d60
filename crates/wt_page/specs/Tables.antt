-- Tables, by the parts of their lines. What is read as blocks in a cell is handed in.
use Rattle.std.specs.Prelude.{ℕ, ◌-◌, ◌==◌, ◌||◌, Bool, true, false, None, List, [], ◌∷◌, ◌++◌, length, map, take, drop, reverse}
use Rattle.std.specs.List.{flat_map, prefix_len}
use Rattle.wt_tree.specs.declared.kind.Kind.{Kind}
use Rattle.wt_tree.specs.declared.kind.Kind.TheVariants as kind
use Rattle.wt_span.specs.Items.{Item}
use Rattle.wt_lines.specs.Lines.{content}
use Rattle.wt_attributes.specs.Attributes.{Named}
use Rattle.wt_tables.specs.Cells.{Cell, cells_from, table_attributes, row_attributes}
use Rattle.wt_tables.specs.Parts.{RowOf, TableOf, is_blank_kind, table_of}
use Rattle.wt_inline.specs.ItemTree.{Head, plain}
use Rattle.wt_context.specs.Line.{line_parts}
use Rattle.wt_page.specs.Lines.{ending}
use Rattle.wt_page.specs.Rows.{Row, row_items, all_items, kind_of, first_lead}
use Rattle.wt_page.specs.Stretches.{Stretch, gap, block, tree_block, node_of, opened_by, enclosed}

-- how rows are read as blocks
abbrev pub Reading : Type 0
Reading = List Row → List Stretch

abbrev pub with_attrs : Kind → List Named → Head
with_attrs k attrs = record { kind = k; shown = []; attrs = attrs; mw = None }

abbrev pub gaps : List Row → List Stretch
gaps rs = map (λ r. gap (row_items r)) rs

-- ---- cells

abbrev pub cell_kind : Bool → Bool → Kind
cell_kind true header = kind.Caption
cell_kind false true = kind.Th
cell_kind false false = kind.Td

-- a cell: what is left of its line, and what follows
abbrev pub cell_by : Bool → Cell → List Stretch → List Stretch
cell_by caption c ss = opened_by (with_attrs (cell_kind caption c.header) c.attrs) c.opening (block (line_parts c.rest) ∷ ss)

-- the cells of a line, of which the last one goes on with what follows
abbrev pub cells_by : Bool → List Cell → List Stretch → List Stretch
cells_by caption [] ss = ss
cells_by caption (c ∷ []) ss = cell_by caption c ss
cells_by caption (c ∷ d ∷ cs) ss = cell_by caption c [] ++ cells_by caption (d ∷ cs) ss

-- the cells, or the caption, of a line and of the rows after it that belong to the last of them
unfoldable pub cell_stretches : Reading → Bool → List Row → List Stretch
cell_stretches read caption [] = []
cell_stretches read caption (r ∷ rs) = gap r.lead ∷ cells_by caption (cells_from caption r.items) (gap r.ending ∷ read rs)

-- ---- delimiters with stray lines

-- a blank line, or an end that no line makes
abbrev pub is_blank_row : Row → Bool
is_blank_row r = is_blank_kind r.kind || (length r.items == 0)

-- how many rows there are up to the last one that isn't blank
abbrev pub stray_len : List Row → ℕ
stray_len rs = length rs - prefix_len is_blank_row (reverse rs)

-- the items of rows from the first sign on
abbrev pub from_sign : List Row → List Item
from_sign [] = []
from_sign (r ∷ rs) = r.items ++ (r.ending ++ all_items rs)

-- A line that opens a table or a row takes the lines after it up to the last that isn't blank, whole tables too. The line break
-- of the last one and the blank lines after it are separators.
abbrev pub delimiter : List Row → List Item
delimiter rs = content (from_sign (take (stray_len rs) rs))

abbrev pub behind_delimiter : List Row → List Stretch
behind_delimiter rs = gap (ending (from_sign (take (stray_len rs) rs))) ∷ gaps (drop (stray_len rs) rs)

abbrev pub delimiter_lead : List Row → List Item
delimiter_lead rs = first_lead (take (stray_len rs) rs)

-- ---- rows

abbrev pub first_items : List Row → List Item
first_items [] = []
first_items (r ∷ rs) = r.items

-- a row by the lines that open it, if any do, and its cells
abbrev pub row_by : List Row → List Stretch → List Stretch
row_by [] cells = enclosed (plain kind.Tr) cells
row_by (r ∷ rs) cells =
    gap (delimiter_lead (r ∷ rs)) ∷ opened_by (with_attrs kind.Tr (row_attributes r.items)) (delimiter (r ∷ rs)) (behind_delimiter (r ∷ rs) ++ cells)

unfoldable pub row_stretches : Reading → RowOf Row → List Stretch
row_stretches read r = row_by (r.opening ++ r.between) (flat_map (cell_stretches read false) r.cells)

-- rows lie in one body of the table with empty delimiters; a table without rows has none
abbrev pub rows_stretches : Reading → List (RowOf Row) → List Stretch
rows_stretches read [] = []
rows_stretches read (r ∷ rs) = enclosed (plain kind.Tbody) (flat_map (row_stretches read) (r ∷ rs))

-- ---- tables

-- what is in a table after its open delimiter
abbrev pub table_inside : Reading → TableOf Row → List Stretch
table_inside read t = flat_map (cell_stretches read true) t.captions ++ rows_stretches read t.rows

-- a table by its parts and the row that ends it
unfoldable pub table_by : Reading → TableOf Row → Row → List Stretch
table_by read t end =
    let opening = t.opening ++ t.between in
    gap (delimiter_lead opening)
    ∷ tree_block (node_of (with_attrs kind.Table (table_attributes (first_items opening))) (delimiter opening)
    (behind_delimiter opening ++ (table_inside read t ++ (gap end.lead ∷ []))) end.items)
    ∷ gap end.ending ∷ []

-- the last of rows, and those before it
abbrev pub last_of : Row → List Row → Row
last_of r [] = r
last_of r (s ∷ rs) = last_of s rs

abbrev pub without_last : Row → List Row → List Row
without_last r [] = []
without_last r (s ∷ rs) = r ∷ without_last s rs

-- the table of its rows, from the one that opens it to the one that ends it
abbrev pub table : Reading → List Row → List Stretch
table read [] = []
table read (r ∷ []) = gap (row_items r) ∷ []
table read (r ∷ s ∷ rs) = table_by read (table_of kind_of r (without_last s rs)) (last_of s rs)
