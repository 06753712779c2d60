-- Tables and bodies are gaps and tight nodes, and the meaning of items is tight.
use Rattle.std.proofs.Common.{◌≡◌, ℕ, zero, suc, Bool, true, false, List, [], ◌∷◌, ◌++◌, drop, refl}
use Rattle.std.specs.List.{flat_map}
use Rattle.wt_tree.specs.declared.kind.Kind.TheVariants as kind
use Rattle.wt_span.specs.Items.{Item}
use Rattle.wt_span.specs.Runs.{runs}
use Rattle.wt_lines.specs.declared.kind.LineKind.{LineKind}
use Rattle.wt_lines.specs.declared.kind.LineKind.TheVariants as line
use Rattle.wt_lines.specs.declared.kind.TheConstants.{MOST_TABLES}
use Rattle.wt_tables.specs.Cells.{Cell, cells_from, row_attributes}
use Rattle.wt_tables.specs.Parts.{joined, RowOf, TableOf, table_of, units, unit_kind}
use Rattle.wt_inline.specs.ItemTree.{plain}
use Rattle.wt_page.specs.Rows.{Row, kind_of, rows}
use Rattle.wt_page.specs.Stretches.{Stretch, gap, stretches_parts}
use Rattle.wt_page.specs.Tables.{Reading, with_attrs, gaps, cell_kind, cell_by, cells_by, cell_stretches, stray_len, delimiter, behind_delimiter, row_by, row_stretches, rows_stretches, table_inside, table_by, last_of, without_last, table}
use Rattle.wt_page.specs.Body.{same_block, rule_row, heading_row, block_stretches, run_stretches, blocks_by, within, blocks, meaning}
use Rattle.wt_page_laws.specs.Roles.{role}
use Rattle.wt_page_laws.specs.Ends.{IsTight}
use Rattle.wt_page_laws.proofs.Alls.{all_both, all_flat}
use Rattle.wt_page_laws.proofs.Children.{tight_children}
use Rattle.wt_page_laws.proofs.TightNodes.{IsSolid, AreSolid, solid_tight, asks_end, line_opened, row_opened, enclosed_solid}
use Rattle.wt_page_laws.proofs.TightBlocks.{para_tight, pre_tight, rule_tight, heading_tight, of_lists}

abbrev pub ReadsSolid : Reading → Type 0
ReadsSolid read = (rs : List Row) → AreSolid (read rs)

pub of_gaps : (rs : List Row) → AreSolid (gaps rs)
of_gaps [] = tt
of_gaps (r ∷ rs) = (tt, of_gaps rs)

-- ---- cells

cell_end : (caption header : Bool) → asks_end (role (cell_kind caption header)) ≡ true
cell_end true header = refl
cell_end false true = refl
cell_end false false = refl

cell_solid : (caption : Bool) (c : Cell) (ss : List Stretch) → AreSolid ss → AreSolid (cell_by caption c ss)
cell_solid caption c ss h = line_opened (with_attrs (cell_kind caption c.header) c.attrs) c.opening c.rest ss (cell_end caption c.header) h

cells_solid : (caption : Bool) (cs : List Cell) (ss : List Stretch) → AreSolid ss → AreSolid (cells_by caption cs ss)
cells_solid caption [] ss h = h
cells_solid caption (c ∷ []) ss h = cell_solid caption c ss h
cells_solid caption (c ∷ d ∷ cs) ss h =
    all_both IsSolid (cell_by caption c []) (cells_by caption (d ∷ cs) ss) (cell_solid caption c [] tt) (cells_solid caption (d ∷ cs) ss h)

line_solid : (read : Reading) → ReadsSolid read → (caption : Bool) (rs : List Row) → AreSolid (cell_stretches read caption rs)
unfolding cell_stretches
line_solid read h caption [] = tt
line_solid read h caption (r ∷ rs) = (tt, cells_solid caption (cells_from caption r.items) (gap r.ending ∷ read rs) (tt, h rs))

lines_solid : (read : Reading) → ReadsSolid read → (caption : Bool) (gs : List (List Row)) → AreSolid (flat_map (cell_stretches read caption) gs)
lines_solid read h caption gs = all_flat IsSolid (cell_stretches read caption) (line_solid read h caption) gs

-- ---- rows

delimiter_solid : (rs : List Row) → AreSolid (behind_delimiter rs)
delimiter_solid rs = (tt, of_gaps (drop (stray_len rs) rs))

row_by_solid : (rs : List Row) (cells : List Stretch) → AreSolid cells → AreSolid (row_by rs cells)
row_by_solid [] cells h = enclosed_solid (plain kind.Tr) cells refl h
row_by_solid (r ∷ rs) cells h =
    let all = r ∷ rs in (
      tt,
      row_opened (with_attrs kind.Tr (row_attributes r.items)) (delimiter all) (behind_delimiter all ++ cells) refl
          (all_both IsSolid (behind_delimiter all) cells (delimiter_solid all) h),
    )

row_solid : (read : Reading) → ReadsSolid read → (r : RowOf Row) → AreSolid (row_stretches read r)
unfolding row_stretches
row_solid read h r = row_by_solid (r.opening ++ r.between) (flat_map (cell_stretches read false) r.cells) (lines_solid read h false r.cells)

rows_solid : (read : Reading) → ReadsSolid read → (rs : List (RowOf Row)) → AreSolid (rows_stretches read rs)
rows_solid read h [] = tt
rows_solid read h (r ∷ rs) =
    enclosed_solid (plain kind.Tbody) (flat_map (row_stretches read) (r ∷ rs)) refl (all_flat IsSolid (row_stretches read) (row_solid read h) (r ∷ rs))

-- ---- tables

inside_solid : (read : Reading) → ReadsSolid read → (t : TableOf Row) → AreSolid (table_inside read t)
inside_solid read h t =
    all_both IsSolid (flat_map (cell_stretches read true) t.captions) (rows_stretches read t.rows) (lines_solid read h true t.captions) (rows_solid read h t.rows)

table_by_solid : (read : Reading) → ReadsSolid read → (t : TableOf Row) (end : Row) → AreSolid (table_by read t end)
unfolding table_by
table_by_solid read h t end =
    let opening = t.opening ++ t.between in
    let last = gap end.lead ∷ [] in
    let ss = behind_delimiter opening ++ (table_inside read t ++ last) in
    let all : AreSolid ss = all_both IsSolid (behind_delimiter opening) (table_inside read t ++ last) (delimiter_solid opening)
    (all_both IsSolid (table_inside read t) last (inside_solid read h t) (tt, tt)) in
    (tt, ((tight_children (stretches_parts ss) (solid_tight ss all), refl), (tt, tt)))

table_solid : (read : Reading) → ReadsSolid read → (rs : List Row) → AreSolid (table read rs)
table_solid read h [] = tt
table_solid read h (r ∷ []) = (tt, tt)
table_solid read h (r ∷ s ∷ rs) = table_by_solid read h (table_of kind_of r (without_last s rs)) (last_of s rs)

-- ---- bodies

block_solid : (read : Reading) → ReadsSolid read → (k : LineKind) (rs : List Row) → AreSolid (block_stretches read k rs)
block_solid read h line.Blank rs = of_gaps rs
block_solid read h line.TableOpen rs = table_solid read h rs
block_solid read h line.TableEnd rs = para_tight rs
block_solid read h line.Caption rs = para_tight rs
block_solid read h line.Row rs = para_tight rs
block_solid read h line.Cell rs = para_tight rs
block_solid read h line.Header rs = para_tight rs
block_solid read h line.Heading rs = all_flat IsSolid heading_row heading_tight rs
block_solid read h line.Rule rs = all_flat IsSolid rule_row rule_tight rs
block_solid read h line.List rs = of_lists rs
block_solid read h line.Pre rs = pre_tight rs
block_solid read h line.Text rs = para_tight rs

by_solid : (read : Reading) → ReadsSolid read → ReadsSolid (blocks_by read)
by_solid read h rs =
    all_flat IsSolid (run_stretches read) (λ us. block_solid read h (unit_kind kind_of (joined us)) (joined us)) (runs same_block (units kind_of rs))

within_solid : (n : ℕ) → ReadsSolid (within n)
within_solid zero = by_solid gaps of_gaps
within_solid (suc n) = by_solid (within n) (within_solid n)

pub tight_meaning : (xs : List Item) → IsTight (meaning xs)
unfolding meaning blocks
tight_meaning xs =
    let ss : List Stretch = within MOST_TABLES (rows xs) in
    tight_children (stretches_parts ss) (solid_tight ss (within_solid MOST_TABLES (rows xs)))
