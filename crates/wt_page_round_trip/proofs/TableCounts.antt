-- How many numbers tables have, where what is read in cells has no more than its rows allow: one for each cell by its sign, one for each
-- row by its line, and three by the line that opens the table, for the table, its body and a first row without a line.
use Rattle.std.proofs.Common.{◌≡◌, ℕ, zero, suc, ◌+◌, ◌≤◌, Bool, true, false, List, [], ◌∷◌, ◌++◌, length, take, drop, map, refl, sym, ap, ◌∙◌, subst, cond, arith, append_assoc, drop-drop, length-append}
use Rattle.std.specs.Prelude.{not, if◌then◌else◌}
use Rattle.std.specs.List.{flat_map, prefix_len, AllByRecursion}
use Rattle.std.proofs.lemmas.List.{take-append-drop, length-map}
use Rattle.std.proofs.lemmas.Grind.{flat_map-append}
use Rattle.wt_tree.specs.declared.kind.Kind.TheVariants as kind
use Rattle.wt_span.specs.Items.{Item}
use Rattle.wt_span.specs.Runs.{runs, IsRun, AreRuns}
use Rattle.wt_span.proofs.RunLaws.{runs_are}
use Rattle.wt_lines.specs.Lines.{content}
use Rattle.wt_tables.specs.declared.scan.Splits.{Splits}
use Rattle.wt_tables.specs.Cells.{Cell, onto, parts, splits_at, cell_of, cells_in, cells_from, signs, split_by, header_by, sign_len, whole, table_attributes, row_attributes}
use Rattle.wt_tables.specs.Extents.{is_open}
use Rattle.wt_tables.specs.Parts.{joined, units, unit_kind, begins_part, begins_group, groups, group_kind, is_row, row_by as row_parts, row_of, plain_len, captions_len, RowOf, TableOf, table_by as table_parts, table_of, row_lines, table_lines}
use Rattle.wt_tables.proofs.PartLines.{table_joined}
use Rattle.wt_inline.specs.ItemTree.{plain}
use Rattle.wt_context.specs.Line.{line_parts}
use Rattle.wt_page.specs.Lines.{ending}
use Rattle.wt_page.proofs.Ends.{content_ending}
use Rattle.wt_page.specs.Rows.{Row, row_items, all_items, kind_of, first_lead}
use Rattle.wt_page.specs.Stretches.{Stretch, gap, block, tree_block, node_of, opened_by}
use Rattle.wt_page.specs.Tables.{Reading, with_attrs, gaps, cell_kind, cell_by, cells_by, cell_stretches, stray_len, from_sign, delimiter, behind_delimiter, delimiter_lead, first_items, row_by, row_stretches, rows_stretches, table_inside, table_by, last_of, without_last, table}
use Rattle.wt_page.proofs.HeldTables.{cells_joined, lead_sign, last_joined}
use Rattle.wt_page_round_trip.specs.Numbers.{makes_all}
use Rattle.wt_page_round_trip.proofs.Makes.{makes_append}
use Rattle.wt_page_round_trip.proofs.ContextCounts.{line_count}
use Rattle.wt_page_round_trip.proofs.Allowances.{most_parts, own_parts, allowed, allowed_all, allowed_append, IsFit, AreFit, fit_front, fit_back, row_makes, row_length, row_allows, open_allows, rows_allow}
use Rattle.wt_page_round_trip.proofs.StretchCounts.{total, total_append, of_gap, of_block, of_tree, of_node, of_opened, of_enclosed}

-- what is read has no more numbers than its rows allow
abbrev pub IsFew : Reading → Type 0
IsFew read = (rs : List Row) → AreFit rs → total (read rs) ≤ allowed_all rs

gaps_makes : (rs : List Row) → total (gaps rs) ≤ makes_all (all_items rs)
gaps_makes [] = omega arith
gaps_makes (r ∷ rs) = omega (arith, of_gap (row_items r) (gaps rs), gaps_makes rs, makes_append (row_items r) (all_items rs))

pub gaps_few : IsFew gaps
gaps_few rs h = omega (arith, gaps_makes rs, rows_allow rs h)

-- ---- cells

some_parts : (n k : ℕ) → 1 ≤ most_parts n k
some_parts zero k = omega arith
some_parts (suc n) zero = omega arith
some_parts (suc n) (suc k) = omega arith

onto_few : (x : Item) (ps : List (List Item)) (m : ℕ) → 1 ≤ m → length ps ≤ m → length (onto x ps) ≤ m
onto_few x [] m a b = omega arith
onto_few x (p ∷ ps) m a b = b

one_more : (n k : ℕ) → most_parts n k ≤ 1 + k
one_more zero k = omega arith
one_more (suc n) zero = omega arith
one_more (suc n) (suc k) = omega arith

split_few : (x : Item) (xs : List Item) (by : Splits) (v : Bool) → length (parts by 1 xs) ≤ most_parts 1 (length xs)
    → length (parts by 0 xs) ≤ most_parts 0 (length xs)
    → length (if v then [] ∷ onto x (parts by 1 xs) else onto x (parts by 0 xs)) ≤ 2 + length xs
split_few x xs by true a b = omega (arith, onto_few x (parts by 1 xs) (1 + length xs) (omega arith) (omega (arith, one_more 1 (length xs))))
split_few x xs by false a b = onto_few x (parts by 0 xs) (2 + length xs) (omega arith) (omega arith)

parts_few : (by : Splits) (n : ℕ) (xs : List Item) → length (parts by n xs) ≤ most_parts n (length xs)
parts_few by zero [] = omega arith
parts_few by (suc n) [] = omega arith
parts_few by zero (x ∷ xs) = omega (arith, split_few x xs by (splits_at by (x ∷ xs)) (parts_few by 1 xs) (parts_few by 0 xs))
parts_few by (suc n) (x ∷ xs) =
    onto_few x (parts by n xs) (suc (length xs)) (omega arith) (omega (arith, one_more n (length xs), parts_few by n xs))

in_few : (header : Bool) (n : ℕ) (ps : List (List Item)) → length (cells_in header n ps) ≡ length ps
in_few header n [] = refl
in_few header n (p ∷ ps) = ap suc (length-map ps (cell_of header 2))

first_parts : (caption : Bool) (n : ℕ) → most_parts (sign_len caption) n ≤ most_parts 1 n
first_parts true zero = omega arith
first_parts true (suc n) = omega arith
first_parts false n = omega arith

cells_few : (caption : Bool) (xs : List Item) → length (cells_from caption xs) ≤ most_parts 1 (length xs)
cells_few caption xs =
    let by = split_by caption (signs xs) in
    let n = sign_len caption in
    omega (
      arith,
      in_few (header_by caption (signs xs)) n (parts by n xs),
      parts_few by n xs,
      first_parts caption (length xs),
    )

cell_count : (caption : Bool) (c : Cell) (ss : List Stretch) → total (cell_by caption c ss) ≤ 1 + length (whole c) + makes_all (whole c) + total ss
cell_count caption c ss =
    omega (
      arith,
      of_opened (with_attrs (cell_kind caption c.header) c.attrs) c.opening (block (line_parts c.rest) ∷ ss),
      of_block (line_parts c.rest) ss,
      line_count c.rest,
      makes_append c.opening c.rest,
      length-append c.opening c.rest,
    )

cells_count : (caption : Bool) (cs : List Cell) (ss : List Stretch)
    → total (cells_by caption cs ss) ≤ length cs + length (flat_map whole cs) + makes_all (flat_map whole cs) + total ss
cells_count caption [] ss = omega arith
cells_count caption (c ∷ []) ss =
    omega (arith, cell_count caption c ss, length-append (whole c) [], makes_append (whole c) [])
cells_count caption (c ∷ d ∷ cs) ss =
    let others = cells_by caption (d ∷ cs) ss in
    omega (
      arith,
      total_append (cell_by caption c []) others,
      cell_count caption c [],
      cells_count caption (d ∷ cs) ss,
      length-append (whole c) (flat_map whole (d ∷ cs)),
      makes_append (whole c) (flat_map whole (d ∷ cs)),
    )

-- the first of these rows begins a cell, a caption or a row
abbrev BeginsCell : List Row → Type 0
BeginsCell [] = Unit {0}
BeginsCell (r ∷ rs) = begins_part r.kind ≡ true

line_few : (read : Reading) → IsFew read → (caption : Bool) (rs : List Row) → BeginsCell rs → AreFit rs
    → total (cell_stretches read caption rs) ≤ allowed_all rs
unfolding cell_stretches
line_few read h caption [] b f = omega arith
line_few read h caption (r ∷ rs) b f =
    let cs = cells_from caption r.items in
    let more = gap r.ending ∷ read rs in
    omega (
      arith,
      of_gap r.lead (cells_by caption cs more),
      cells_count caption cs more,
      cells_few caption r.items,
      ap length (cells_joined caption r.items),
      ap makes_all (cells_joined caption r.items),
      of_gap r.ending (read rs),
      h rs f.1,
      row_makes r,
      own_parts r.kind (length (row_items r)) (length r.items) b (omega (arith, row_length r)),
    )

abbrev BeginCells : List (List Row) → Type 0
BeginCells gs = AllByRecursion BeginsCell gs

lines_few : (read : Reading) → IsFew read → (caption : Bool) (gs : List (List Row)) → BeginCells gs → AreFit (joined gs)
    → total (flat_map (cell_stretches read caption) gs) ≤ allowed_all (joined gs)
lines_few read h caption [] b f = omega arith
lines_few read h caption (g ∷ gs) b f =
    omega (
      arith,
      total_append (cell_stretches read caption g) (flat_map (cell_stretches read caption) gs),
      line_few read h caption g b.0 (fit_front g (joined gs) f),
      lines_few read h caption gs b.1 (fit_back g (joined gs) f),
      allowed_append g (joined gs),
    )

-- ---- delimiters

delimiter_makes : (rs : List Row) (ss : List Stretch)
    → makes_all (delimiter_lead rs) + total (behind_delimiter rs ++ ss) ≤ makes_all (all_items rs) + total ss
delimiter_makes rs ss =
    let n = stray_len rs in
    let front = take n rs in
    let back = drop n rs in
    let xs = from_sign front in
    let all : all_items front ++ all_items back ≡ all_items rs = sym (flat_map-append row_items front back) ∙ ap all_items (take-append-drop n rs) in
    omega (
      arith,
      total_append (behind_delimiter rs) ss,
      of_gap (ending xs) (gaps back),
      gaps_makes back,
      makes_append (content xs) (ending xs),
      ap makes_all (content_ending xs),
      makes_append (first_lead front) xs,
      ap makes_all (lead_sign front),
      makes_append (all_items front) (all_items back),
      ap makes_all all,
    )

-- ---- rows

row_by_count : (rs : List Row) (cells : List Stretch) → total (row_by rs cells) ≤ 1 + makes_all (all_items rs) + total cells
row_by_count [] cells = omega (arith, of_enclosed (plain kind.Tr) cells)
row_by_count (r ∷ rs) cells =
    let all = r ∷ rs in
    let head = with_attrs kind.Tr (row_attributes r.items) in
    omega (
      arith,
      of_gap (delimiter_lead all) (opened_by head (delimiter all) (behind_delimiter all ++ cells)),
      of_opened head (delimiter all) (behind_delimiter all ++ cells),
      delimiter_makes all cells,
    )

-- a row's fit lines in two parts
row_fit : (r : RowOf Row) → AreFit (row_lines r) → AreFit (r.opening ++ r.between) × AreFit (joined r.cells)
row_fit r f =
    let whole_row = subst AreFit (sym (append_assoc r.opening r.between (joined r.cells))) f in
    (fit_front (r.opening ++ r.between) (joined r.cells) whole_row, fit_back (r.opening ++ r.between) (joined r.cells) whole_row)

row_allowed : (r : RowOf Row) → allowed_all (row_lines r) ≡ allowed_all (r.opening ++ r.between) + allowed_all (joined r.cells)
row_allowed r =
    omega (
      arith,
      allowed_append r.opening (r.between ++ joined r.cells),
      allowed_append r.between (joined r.cells),
      allowed_append r.opening r.between,
    )

row_makes_count : (read : Reading) → IsFew read → (r : RowOf Row) → BeginCells r.cells → AreFit (row_lines r)
    → total (row_stretches read r) ≤ 1 + makes_all (all_items (r.opening ++ r.between)) + allowed_all (joined r.cells)
unfolding row_stretches
row_makes_count read h r b f =
    omega (
      arith,
      row_by_count (r.opening ++ r.between) (flat_map (cell_stretches read false) r.cells),
      lines_few read h false r.cells b (row_fit r f).1,
    )

-- one number more than its lines allow
first_row_count : (read : Reading) → IsFew read → (r : RowOf Row) → BeginCells r.cells → AreFit (row_lines r)
    → total (row_stretches read r) ≤ 1 + allowed_all (row_lines r)
first_row_count read h r b f = omega (arith, row_makes_count read h r b f, rows_allow (r.opening ++ r.between) (row_fit r f).0, row_allowed r)

-- a line opens the row
abbrev Opens : List Row → Type 0
Opens [] = ⊥
Opens (r ∷ rs) = Unit {0}

opened_allow : (rs ss : List Row) → Opens rs → AreFit (rs ++ ss) → 1 + makes_all (all_items (rs ++ ss)) ≤ allowed_all (rs ++ ss)
opened_allow [] ss o f = absurd o
opened_allow (r ∷ rs) ss o f =
    omega (arith, makes_append (row_items r) (all_items (rs ++ ss)), row_allows r f.0, rows_allow (rs ++ ss) f.1)

opened_row_count : (read : Reading) → IsFew read → (r : RowOf Row) → BeginCells r.cells → Opens r.opening → AreFit (row_lines r)
    → total (row_stretches read r) ≤ allowed_all (row_lines r)
opened_row_count read h r b o f = omega (arith, row_makes_count read h r b f, opened_allow r.opening r.between o (row_fit r f).0, row_allowed r)

abbrev IsOpened : RowOf Row → Type 0
IsOpened r = BeginCells r.cells × Opens r.opening

each_row_count : (read : Reading) → IsFew read → (rs : List (RowOf Row)) → AllByRecursion IsOpened rs → AreFit (flat_map row_lines rs)
    → total (flat_map (row_stretches read) rs) ≤ allowed_all (flat_map row_lines rs)
each_row_count read h [] b f = omega arith
each_row_count read h (r ∷ rs) b f =
    omega (
      arith,
      total_append (row_stretches read r) (flat_map (row_stretches read) rs),
      opened_row_count read h r b.0.0 b.0.1 (fit_front (row_lines r) (flat_map row_lines rs) f),
      each_row_count read h rs b.1 (fit_back (row_lines r) (flat_map row_lines rs) f),
      allowed_append (row_lines r) (flat_map row_lines rs),
    )

-- all rows but the first are opened by a line
abbrev AreRowsOf : List (RowOf Row) → Type 0
AreRowsOf [] = Unit {0}
AreRowsOf (r ∷ rs) = BeginCells r.cells × AllByRecursion IsOpened rs

rows_count : (read : Reading) → IsFew read → (rs : List (RowOf Row)) → AreRowsOf rs → AreFit (flat_map row_lines rs)
    → total (rows_stretches read rs) ≤ 2 + allowed_all (flat_map row_lines rs)
rows_count read h [] b f = omega arith
rows_count read h (r ∷ rs) b f =
    omega (
      arith,
      of_enclosed (plain kind.Tbody) (flat_map (row_stretches read) (r ∷ rs)),
      total_append (row_stretches read r) (flat_map (row_stretches read) rs),
      first_row_count read h r b.0 (fit_front (row_lines r) (flat_map row_lines rs) f),
      each_row_count read h rs b.1 (fit_back (row_lines r) (flat_map row_lines rs) f),
      allowed_append (row_lines r) (flat_map row_lines rs),
    )

-- ---- the parts of a table

-- runs that are begun by what passes a test
abbrev Starts : {A : Type 0} → (A → Bool) → List A → Type 0
Starts q [] = Unit {0}
Starts q (x ∷ xs) = q x ≡ true

abbrev Begins : {A : Type 0} → (A → Bool) → List A → Type 0
Begins q [] = ⊥
Begins q (x ∷ xs) = q x ≡ true

past_by : {A : Type 0} (q : A → Bool) (x : A) (xs : List A) (v : Bool) → q x ≡ v → Starts q (drop (prefix_len (λ y. not (q y)) xs) xs)
    → Starts q (drop (cond (not v) (1 + prefix_len (λ y. not (q y)) xs) 0) (x ∷ xs))
past_by q x xs true e h = e
past_by q x xs false e h = subst (Starts q) (drop-drop (prefix_len (λ y. not (q y)) xs) 1 (x ∷ xs)) h

past_first : {A : Type 0} (q : A → Bool) (xs : List A) → Starts q (drop (prefix_len (λ x. not (q x)) xs) xs)
past_first q [] = tt
past_first q (x ∷ xs) = past_by q x xs (q x) refl (past_first q xs)

was_not : (v : Bool) → not v ≡ false → v ≡ true
was_not true e = refl
was_not false e = absurd cc

next_starts : {A : Type 0} (q : A → Bool) (r others : List A) → IsRun (λ x y. not (q y)) r others → Starts q others
next_starts q [] others h = absurd h
next_starts q (x ∷ []) [] h = tt
next_starts q (x ∷ []) (y ∷ others) h = was_not (q y) h
next_starts q (x ∷ y ∷ ys) others h = next_starts q (y ∷ ys) others h.1

run_begins : {A : Type 0} (q : A → Bool) (r others : List A) → IsRun (λ x y. not (q y)) r others → Starts q (r ++ others) → Begins q r
run_begins q [] others h s = absurd h
run_begins q (x ∷ r) others h s = s

runs_begin : {A : Type 0} (q : A → Bool) (rs : List (List A)) (xs : List A) → AreRuns (λ x y. not (q y)) rs xs → Starts q xs → AllByRecursion (Begins q) rs
runs_begin q [] xs h s = tt
runs_begin q (r ∷ rs) xs h s =
    (run_begins q r h.0 h.2 (subst (Starts q) h.1 s), runs_begin q rs h.0 h.3 (next_starts q r h.0 h.2))

all_front : {A : Type 0} (P : A → Type 0) (xs ys : List A) → AllByRecursion P (xs ++ ys) → AllByRecursion P xs
all_front P [] ys h = tt
all_front P (x ∷ xs) ys h = (h.0, all_front P xs ys h.1)

all_back : {A : Type 0} (P : A → Type 0) (xs ys : List A) → AllByRecursion P (xs ++ ys) → AllByRecursion P ys
all_back P [] ys h = h
all_back P (x ∷ xs) ys h = all_back P xs ys h.1

abbrev AreBegun : List (List (List Row)) → Type 0
AreBegun gs = AllByRecursion (Begins (begins_group kind_of)) gs

unit_cell : (u rest : List Row) → begins_part (unit_kind kind_of u) ≡ true → BeginsCell (u ++ rest)
unit_cell [] rest e = absurd cc
unit_cell (r ∷ u) rest e = e

group_cell : (g : List (List Row)) → Begins (begins_group kind_of) g → BeginsCell (joined g)
group_cell [] h = absurd h
group_cell (u ∷ us) h = unit_cell u (joined us) h

group_cells : (gs : List (List (List Row))) → AreBegun gs → BeginCells (map joined gs)
group_cells [] h = tt
group_cells (g ∷ gs) h = (group_cell g h.0, group_cells gs h.1)

row_cells : (v : Bool) (g : List (List Row)) (gs : List (List (List Row))) → Begins (begins_group kind_of) g → AreBegun gs
    → BeginCells (row_parts kind_of v g gs).cells
row_cells v [] gs b h = absurd b
row_cells true (u ∷ us) gs b h = group_cells gs h
row_cells false (u ∷ us) gs b h = (group_cell (u ∷ us) b, group_cells gs h)

run_cells : (gs : List (List (List Row))) → AreBegun gs → BeginCells (row_of kind_of gs).cells
run_cells [] h = tt
run_cells (g ∷ gs) h = row_cells (is_row (group_kind kind_of g)) g gs h.0 h.1

unit_opens : (u rest : List Row) → is_row (unit_kind kind_of u) ≡ true → Opens (u ++ rest)
unit_opens [] rest e = absurd cc
unit_opens (r ∷ u) rest e = tt

row_opens : (v : Bool) (g : List (List Row)) (gs : List (List (List Row))) → is_row (group_kind kind_of g) ≡ true → v ≡ true
    → Opens (row_parts kind_of v g gs).opening
row_opens v [] gs e d = absurd cc
row_opens true (u ∷ us) gs e d = unit_opens u _ e
row_opens false (u ∷ us) gs e d = absurd cc

run_opens : (gs : List (List (List Row))) → Begins (λ g. is_row (group_kind kind_of g)) gs → Opens (row_of kind_of gs).opening
run_opens [] h = absurd h
run_opens (g ∷ gs) h = row_opens (is_row (group_kind kind_of g)) g gs h h

abbrev starts_row : List (List Row) → Bool
starts_row g = is_row (group_kind kind_of g)

runs_opened : (rs : List (List (List (List Row)))) (gs : List (List (List Row))) → AreRuns (λ g h. not (starts_row h)) rs gs → AreBegun gs
    → Starts starts_row gs
    → AllByRecursion IsOpened (map (row_of kind_of) rs)
runs_opened [] gs h b s = tt
runs_opened (r ∷ rs) gs h b s =
    let begun = subst AreBegun h.1 b in (
      (run_cells r (all_front (Begins (begins_group kind_of)) r h.0 begun), run_opens r (run_begins starts_row r h.0 h.2 (subst (Starts starts_row) h.1 s))),
      runs_opened rs h.0 h.3 (all_back (Begins (begins_group kind_of)) r h.0 begun) (next_starts starts_row r h.0 h.2),
    )

runs_rows : (rs : List (List (List (List Row)))) (gs : List (List (List Row))) → AreRuns (λ g h. not (starts_row h)) rs gs → AreBegun gs
    → AreRowsOf (map (row_of kind_of) rs)
runs_rows [] gs h b = tt
runs_rows (r ∷ rs) gs h b =
    let begun = subst AreBegun h.1 b in (
      run_cells r (all_front (Begins (begins_group kind_of)) r h.0 begun),
      runs_opened rs h.0 h.3 (all_back (Begins (begins_group kind_of)) r h.0 begun) (next_starts starts_row r h.0 h.2),
    )

-- ---- tables

-- the parts of a table whose groups are begun, and whose first row opens it
pub record IsTable (t : TableOf Row) : Type 0 where
  pub captions : BeginCells t.captions
  pub rows : AreRowsOf t.rows

parts_of : (first : Row) (plain_units : List (List Row)) (gs : List (List (List Row))) → AreBegun gs → IsTable (table_parts kind_of first plain_units gs)
parts_of first plain_units gs b =
    let n = captions_len kind_of gs in
    let both = subst AreBegun (sym (take-append-drop n gs)) b in
    record {
      captions = group_cells (take n gs) (all_front (Begins (begins_group kind_of)) (take n gs) (drop n gs) both);
      rows =
          runs_rows (runs (λ g h. not (starts_row h)) (drop n gs)) (drop n gs) (runs_are (λ g h. not (starts_row h)) (drop n gs))
          (all_back (Begins (begins_group kind_of)) (take n gs) (drop n gs) both);
    }

is_table : (first : Row) (inside : List Row) → IsTable (table_of kind_of first inside)
is_table first inside =
    let us = units kind_of inside in
    let rest = drop (plain_len kind_of us) us in
    parts_of first (take (plain_len kind_of us) us) (groups kind_of rest)
    (runs_begin (begins_group kind_of) (groups kind_of rest) rest (runs_are (λ u v. not (begins_group kind_of v)) rest) (past_first (begins_group kind_of) us))

inside_count : (read : Reading) → IsFew read → (t : TableOf Row) → IsTable t → AreFit (joined t.captions) → AreFit (flat_map row_lines t.rows)
    → total (table_inside read t) ≤ 2 + allowed_all (joined t.captions) + allowed_all (flat_map row_lines t.rows)
inside_count read h t p f g =
    omega (
      arith,
      total_append (flat_map (cell_stretches read true) t.captions) (rows_stretches read t.rows),
      lines_few read h true t.captions p.captions f,
      rows_count read h t.rows p.rows g,
    )

table_by_count : (read : Reading) → IsFew read → (t : TableOf Row) (end : Row) → IsTable t → AreFit (table_lines t) → IsFit end
    → 3 + makes_all (all_items (t.opening ++ t.between)) ≤ allowed_all (t.opening ++ t.between)
    → total (table_by read t end) ≤ allowed_all (table_lines t) + allowed end
unfolding table_by
table_by_count read h t end p f fe o =
    let opening = t.opening ++ t.between in
    let inside = joined t.captions ++ flat_map row_lines t.rows in
    let head = with_attrs kind.Table (table_attributes (first_items opening)) in
    let last = gap end.lead ∷ [] in
    let ss = behind_delimiter opening ++ (table_inside read t ++ last) in
    let node = node_of head (delimiter opening) ss end.items in
    let lines = subst AreFit (sym (append_assoc t.opening t.between inside)) f in
    let parts_fit : AreFit inside = fit_back opening inside lines in
    let captions_fit : AreFit (joined t.captions) = fit_front (joined t.captions) (flat_map row_lines t.rows) parts_fit in
    let rows_fit : AreFit (flat_map row_lines t.rows) = fit_back (joined t.captions) (flat_map row_lines t.rows) parts_fit in
    omega (
      arith,
      of_gap (delimiter_lead opening) (tree_block node ∷ gap end.ending ∷ []),
      of_tree node (gap end.ending ∷ []),
      of_node head (delimiter opening) ss end.items,
      delimiter_makes opening (table_inside read t ++ last),
      total_append (table_inside read t) last,
      of_gap end.lead [],
      of_gap end.ending [],
      inside_count read h t p captions_fit rows_fit,
      row_makes end,
      row_allows end fe,
      o,
      allowed_append t.opening (t.between ++ inside),
      allowed_append t.between inside,
      allowed_append t.opening t.between,
      allowed_append (joined t.captions) (flat_map row_lines t.rows),
    )

opening_allows : (r : Row) (rs : List Row) → is_open r.kind ≡ true → AreFit (r ∷ rs) → 3 + makes_all (all_items (r ∷ rs)) ≤ allowed_all (r ∷ rs)
opening_allows r rs e f = omega (arith, makes_append (row_items r) (all_items rs), open_allows r f.0 e, rows_allow rs f.1)

-- the table of rows of which the first opens it
pub table_count : (read : Reading) → IsFew read → (r : Row) (rs : List Row) → is_open r.kind ≡ true → AreFit (r ∷ rs)
    → total (table read (r ∷ rs)) ≤ allowed_all (r ∷ rs)
table_count read h r [] e f = gaps_few (r ∷ []) f
table_count read h r (s ∷ rs) e f =
    let front = without_last s rs in
    let end = last_of s rs in
    let t = table_of kind_of r front in
    let whole : (r ∷ front) ++ (end ∷ []) ≡ r ∷ s ∷ rs = ap (λ ls. r ∷ ls) (last_joined s rs) in
    let fits = subst AreFit (sym whole) f in
    let front_fit : AreFit (r ∷ front) = fit_front (r ∷ front) (end ∷ []) fits in
    let end_fit : AreFit (end ∷ []) = fit_back (r ∷ front) (end ∷ []) fits in
    let lines_fit : AreFit (table_lines t) = subst AreFit (sym (table_joined kind_of r front)) front_fit in
    let back = joined t.captions ++ flat_map row_lines t.rows in
    let opening_fit : AreFit (t.opening ++ t.between) =
    fit_front (t.opening ++ t.between) back (subst AreFit (sym (append_assoc t.opening t.between back)) lines_fit) in
    omega (
      arith,
      table_by_count read h t end (is_table r front) lines_fit end_fit.0 (opening_allows r _ e opening_fit),
      ap allowed_all (table_joined kind_of r front),
      allowed_append (r ∷ front) (end ∷ []),
      ap allowed_all whole,
    )
