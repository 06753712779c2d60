-- Tables hold captions and one kind of body, this rows, and these cells; and bodies and cells hold blocks alone.
use Rattle.std.proofs.Common.{◌≡◌, ℕ, zero, suc, Bool, true, false, List, [], ◌∷◌, ◌++◌, drop, map, refl, sym, subst, inl, inr}
use Rattle.std.specs.List.{flat_map}
use Rattle.wt_tree.specs.declared.kind.Kind.TheVariants as kind
use Rattle.wt_span.specs.Items.{Item}
use Rattle.wt_span.specs.Runs.{runs}
use Rattle.wt_lines.specs.declared.kind.LineKind.{LineKind}
use Rattle.wt_lines.specs.declared.kind.LineKind.TheVariants as line
use Rattle.wt_lines.specs.declared.kind.TheConstants.{MOST_TABLES}
use Rattle.wt_tables.specs.Cells.{Cell, signs, parts as line_cuts, cell_of, cells_in as line_cells, header_by, sign_len, split_by, table_attributes, row_attributes}
use Rattle.wt_tables.specs.Parts.{joined, RowOf, TableOf, table_of, units, unit_kind}
use Rattle.wt_inline.specs.ItemTree.{ItemTree, plain}
use Rattle.wt_inline.specs.Parts.{Part, loose, node}
use Rattle.wt_page.specs.Headings.{heading}
use Rattle.wt_page.specs.Rows.{Row, kind_of, rows}
use Rattle.wt_page.specs.Stretches.{Stretch, gap, block, stretches_parts, node_of}
use Rattle.wt_page.specs.Texts.{with_separators, para, pre, rule}
use Rattle.wt_page.specs.Tables.{Reading, with_attrs, gaps, cell_kind, cell_by, cells_by, cell_stretches, stray_len, delimiter, behind_delimiter, first_items, row_by, row_stretches, rows_stretches, table_inside, table_by, last_of, without_last, table}
use Rattle.wt_page.specs.Body.{same_block, rule_row, heading_row, block_stretches, run_stretches, blocks_by, within, blocks, meaning}
use Rattle.wt_page_laws.specs.Roles.{Role, outer, lines, role, role_of}
use Rattle.wt_page_laws.specs.Roles as of
use Rattle.wt_page_laws.specs.Places.{holds, IsOneOf, IsHoused}
use Rattle.wt_page_laws.proofs.Alls.{all_both, all_flat}
use Rattle.wt_page_laws.proofs.HousedNodes.{IsOneIn, IsIn, AreIn, stretches_in, housed_node, enclosed_in, row_in, line_in}
use Rattle.wt_page_laws.proofs.CellNames.{cuts_some}
use Rattle.wt_page_laws.proofs.HousedLists.{of_lists}

abbrev pub ReadsIn : Reading → Type 0
ReadsIn read = (rs : List Row) → AreIn outer (read rs)

of_gaps : (parent : Role) (rs : List Row) → AreIn parent (gaps rs)
of_gaps parent [] = tt
of_gaps parent (r ∷ rs) = (tt, of_gaps parent rs)

-- ---- cells: a caption holds what a cell does

abbrev cell_role : Bool → Role
cell_role true = of.caption
cell_role false = of.cell

-- where a caption, or a cell, stands
abbrev home : Bool → Role
home true = of.table
home false = of.row

kind_role : (caption header : Bool) → role (cell_kind caption header) ≡ cell_role caption
kind_role true header = refl
kind_role false true = refl
kind_role false false = refl

at_home : (caption : Bool) → IsOneOf (cell_role caption) (holds (home caption))
at_home true = inl refl
at_home false = inl refl

-- what may stand in one may stand in another that holds the same
one_moved : (p q : Role) → holds p ≡ holds q → (ps : List Part) → IsOneIn p ps → IsOneIn q ps
one_moved p q e [] h = absurd h
one_moved p q e (loose k o b ∷ ps) h = absurd h
one_moved p q e (node t ∷ []) h = (subst (IsOneOf (role_of t)) e h.0, h.1)
one_moved p q e (node t ∷ u ∷ ps) h = absurd h

moved : (p q : Role) → holds p ≡ holds q → (ss : List Stretch) → AreIn p ss → AreIn q ss
moved p q e [] h = tt
moved p q e (gap xs ∷ ss) h = (tt, moved p q e ss h.1)
moved p q e (block ps ∷ ss) h = (one_moved p q e ps h.0, moved p q e ss h.1)

same_held : (caption : Bool) → holds outer ≡ holds (cell_role caption)
same_held true = refl
same_held false = refl

cell_in : (caption : Bool) (c : Cell) (ss : List Stretch) → AreIn (cell_role caption) ss → AreIn (home caption) (cell_by caption c ss)
cell_in caption c ss h =
    line_in (home caption) (cell_role caption) (with_attrs (cell_kind caption c.header) c.attrs) c.opening c.rest ss (kind_role caption c.header)
    (at_home caption) h

cells_in : (caption : Bool) (c : Cell) (cs : List Cell) (ss : List Stretch) → AreIn (cell_role caption) ss
    → AreIn (home caption) (cells_by caption (c ∷ cs) ss)
cells_in caption c [] ss h = cell_in caption c ss h
cells_in caption c (d ∷ cs) ss h =
    all_both (IsIn (home caption)) (cell_by caption c []) (cells_by caption (d ∷ cs) ss) (cell_in caption c [] tt) (cells_in caption d cs ss h)

some_in : (caption header : Bool) (n : ℕ) (cuts : List (List Item)) (p : List Item) (ps : List (List Item)) (ss : List Stretch) → cuts ≡ p ∷ ps
    → AreIn (cell_role caption) ss → AreIn (home caption) (cells_by caption (line_cells header n cuts) ss)
some_in caption header n cuts p ps ss e h =
    subst (λ ds. AreIn (home caption) (cells_by caption (line_cells header n ds) ss)) (sym e)
    (cells_in caption (cell_of header n p) (map (cell_of header 2) ps) ss h)

line_cells_in : (read : Reading) → ReadsIn read → (caption : Bool) (rs : List Row) → AreIn (home caption) (cell_stretches read caption rs)
unfolding cell_stretches
line_cells_in read h caption [] = tt
line_cells_in read h caption (r ∷ rs) =
    let q = cuts_some (split_by caption (signs r.items)) (sign_len caption) r.items in (
      tt,
      some_in caption (header_by caption (signs r.items)) (sign_len caption)
          (line_cuts (split_by caption (signs r.items)) (sign_len caption) r.items) q.0 q.1 (gap r.ending ∷ read rs) q.2
          (tt, moved outer (cell_role caption) (same_held caption) (read rs) (h rs)),
    )

lines_in : (read : Reading) → ReadsIn read → (caption : Bool) (gs : List (List Row)) → AreIn (home caption) (flat_map (cell_stretches read caption) gs)
lines_in read h caption gs = all_flat (IsIn (home caption)) (cell_stretches read caption) (line_cells_in read h caption) gs

-- ---- rows

delimiter_in : (parent : Role) (rs : List Row) → AreIn parent (behind_delimiter rs)
delimiter_in parent rs = (tt, of_gaps parent (drop (stray_len rs) rs))

row_by_in : (rs : List Row) (cells : List Stretch) → AreIn of.row cells → AreIn of.rows (row_by rs cells)
row_by_in [] cells h = enclosed_in of.rows of.row (plain kind.Tr) cells refl (inl refl) h
row_by_in (r ∷ rs) cells h =
    let all = r ∷ rs in (
      tt,
      row_in of.rows of.row (with_attrs kind.Tr (row_attributes r.items)) (delimiter all) (behind_delimiter all ++ cells) refl (inl refl)
          (all_both (IsIn of.row) (behind_delimiter all) cells (delimiter_in of.row all) h),
    )

one_row_in : (read : Reading) → ReadsIn read → (r : RowOf Row) → AreIn of.rows (row_stretches read r)
unfolding row_stretches
one_row_in read h r = row_by_in (r.opening ++ r.between) (flat_map (cell_stretches read false) r.cells) (lines_in read h false r.cells)

rows_in : (read : Reading) → ReadsIn read → (rs : List (RowOf Row)) → AreIn of.table (rows_stretches read rs)
rows_in read h [] = tt
rows_in read h (r ∷ rs) =
    enclosed_in of.table of.rows (plain kind.Tbody) (flat_map (row_stretches read) (r ∷ rs)) refl (inr (inl refl))
    (all_flat (IsIn of.rows) (row_stretches read) (one_row_in read h) (r ∷ rs))

-- ---- tables

inside_in : (read : Reading) → ReadsIn read → (t : TableOf Row) → AreIn of.table (table_inside read t)
inside_in read h t =
    all_both (IsIn of.table) (flat_map (cell_stretches read true) t.captions) (rows_stretches read t.rows) (lines_in read h true t.captions)
    (rows_in read h t.rows)

table_by_in : (read : Reading) → ReadsIn read → (t : TableOf Row) (end : Row) → AreIn outer (table_by read t end)
unfolding table_by
table_by_in read h t end =
    let opening = t.opening ++ t.between in
    let last = gap end.lead ∷ [] in
    let ss = behind_delimiter opening ++ (table_inside read t ++ last) in
    let all : AreIn of.table ss = all_both (IsIn of.table) (behind_delimiter opening) (table_inside read t ++ last) (delimiter_in of.table opening)
    (all_both (IsIn of.table) (table_inside read t) last (inside_in read h t) (tt, tt)) in
    let made : IsHoused (node_of (with_attrs kind.Table (table_attributes (first_items opening))) (delimiter opening) ss end.items) =
    housed_node (with_attrs kind.Table (table_attributes (first_items opening))) (delimiter opening) (stretches_parts ss) end.items
    (stretches_in of.table ss all) in
    (tt, ((inr (inr (inl refl)), made), (tt, tt)))

table_in : (read : Reading) → ReadsIn read → (rs : List Row) → AreIn outer (table read rs)
table_in read h [] = tt
table_in read h (r ∷ []) = (tt, tt)
table_in read h (r ∷ s ∷ rs) = table_by_in read h (table_of kind_of r (without_last s rs)) (last_of s rs)

-- ---- bodies

lines_placed : (t : ItemTree) (rs : List Row) → role_of t ≡ lines → IsHoused t → AreIn outer (with_separators t rs)
lines_placed t rs e h = (tt, ((inl e, h), (tt, tt)))

para_in : (rs : List Row) → AreIn outer (with_separators (para rs) rs)
unfolding para
para_in rs = lines_placed (para rs) rs refl tt

pre_in : (rs : List Row) → AreIn outer (with_separators (pre rs) rs)
unfolding pre
pre_in rs = lines_placed (pre rs) rs refl tt

rule_in : (r : Row) → AreIn outer (rule_row r)
unfolding rule
rule_in r = lines_placed (rule r.items) (r ∷ []) refl tt

heading_in : (r : Row) → AreIn outer (heading_row r)
unfolding heading
heading_in r = lines_placed (heading r.items) (r ∷ []) refl tt

block_in : (read : Reading) → ReadsIn read → (k : LineKind) (rs : List Row) → AreIn outer (block_stretches read k rs)
block_in read h line.Blank rs = of_gaps outer rs
block_in read h line.TableOpen rs = table_in read h rs
block_in read h line.TableEnd rs = para_in rs
block_in read h line.Caption rs = para_in rs
block_in read h line.Row rs = para_in rs
block_in read h line.Cell rs = para_in rs
block_in read h line.Header rs = para_in rs
block_in read h line.Heading rs = all_flat (IsIn outer) heading_row heading_in rs
block_in read h line.Rule rs = all_flat (IsIn outer) rule_row rule_in rs
block_in read h line.List rs = of_lists rs
block_in read h line.Pre rs = pre_in rs
block_in read h line.Text rs = para_in rs

by_in : (read : Reading) → ReadsIn read → ReadsIn (blocks_by read)
by_in read h rs =
    all_flat (IsIn outer) (run_stretches read) (λ us. block_in read h (unit_kind kind_of (joined us)) (joined us)) (runs same_block (units kind_of rs))

within_in : (n : ℕ) → ReadsIn (within n)
within_in zero = by_in gaps (of_gaps outer)
within_in (suc n) = by_in (within n) (within_in n)

pub housed_meaning : (xs : List Item) → IsHoused (meaning xs)
unfolding meaning blocks
housed_meaning xs =
    let ss : List Stretch = within MOST_TABLES (rows xs) in
    housed_node (plain kind.Body) [] (stretches_parts ss) [] (stretches_in outer ss (within_in MOST_TABLES (rows xs)))
