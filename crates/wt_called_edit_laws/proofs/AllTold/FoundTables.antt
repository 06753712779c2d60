-- What is found in a table: in each of its cells and captions what is found in the rows of these.
use Rattle.std.proofs.Common.{arith, ◌≡◌, ℕ, ◌+◌, Bool, true, false, List, [], ◌∷◌, ◌++◌, take, drop, refl, sym, ap, ◌∙◌, subst, append-nil, append_assoc}
use Rattle.std.specs.List.{AllByRecursion, flat_map}
use Rattle.std.proofs.lemmas.List.{take-append-drop}
use Rattle.std.proofs.lemmas.Grind.{flat_map-append}
use Rattle.wt_tree.specs.declared.kind.Kind.TheVariants as kind
use Rattle.wt_span.specs.Items.{Item}
use Rattle.wt_lines.specs.declared.kind.LineKind.{LineKind}
use Rattle.wt_lines.specs.declared.kind.LineKind.TheVariants as line
use Rattle.wt_lines.specs.Lines.{content}
use Rattle.wt_tables.specs.Cells.{Cell, whole, cells_from, table_attributes, row_attributes}
use Rattle.wt_tables.specs.Parts.{RowOf, TableOf, joined, begins_part, is_row, row_lines, table_lines}
use Rattle.wt_inline.specs.declared.loose.Loose.TheVariants.{Sep}
use Rattle.wt_inline.specs.ItemTree.{Head, plain, ItemTree}
use Rattle.wt_inline.specs.Parts.{parts}
use Rattle.wt_context.specs.Line.{line_parts}
use Rattle.wt_page.specs.Lines.{ending}
use Rattle.wt_page.specs.Rows.{Row, row_items, all_items, first_lead}
use Rattle.wt_page.specs.Stretches.{Stretch, gap, block, stretches_parts, tree_block, node_of, opened_by}
use Rattle.wt_page.specs.Tables.{Reading, gaps, with_attrs, cell_kind, cell_by, cells_by, cell_stretches, stray_len, from_sign, delimiter, behind_delimiter, delimiter_lead, first_items, row_by, row_stretches, rows_stretches, table_inside, table_by}
use Rattle.wt_page.proofs.Ends.{content_ending}
use Rattle.wt_page.proofs.HeldTables.{cells_joined, lead_sign}
use Rattle.wt_part_laws.specs.Blocks.{Block, BeginOtherwise, AreBlocks}
use Rattle.wt_part_laws.specs.Rounds.{EndOtherwise}
use Rattle.wt_part_laws.specs.Slots.{AllTrue, open_behind}
use Rattle.wt_part_laws.specs.Units.{Level}
use Rattle.wt_called_edit_laws.specs.AnyBlocks.{open_after}
use Rattle.wt_called_edit_laws.proofs.AllTold.Found.{size, tree_size, size_both, a_shell, housing_of, FoundParts, parts_join, parts_from, parts_to, Shell, shell_found, stretches_join, opened_found, enclosed_found}
use Rattle.wt_called_edit_laws.proofs.AllTold.Opens.{open_both, level_open, blocks_open, cell_open}
use Rattle.wt_called_edit_laws.proofs.AllTold.OtherNodes.{gap_found, line_found}
use Rattle.wt_called_edit_laws.proofs.AllTold.TableParts.{AreCells, IsRow, IsTable}

-- ---- rows in bytes

abbrev pub width : List Row → ℕ
width rs = size (all_items rs)

pub width_both : (rs ss : List Row) → width (rs ++ ss) ≡ width rs + width ss
width_both rs ss = ap size (flat_map-append row_items rs ss) ∙ size_both (all_items rs) (all_items ss)

pub width_first : (r : Row) (rs : List Row) → width (r ∷ rs) ≡ size r.lead + size r.items + size r.ending + width rs
width_first r rs = omega (arith, size_both (row_items r) (all_items rs), size_both r.lead (r.items ++ r.ending), size_both r.items r.ending)

-- ---- a gap first

pub gap_first : (P : ℕ → ItemTree → Type 0) (at from to : ℕ) (xs : List Item) (ss : List Stretch) → at + size xs ≡ from → FoundParts P from (stretches_parts ss) to
    → FoundParts P at (stretches_parts (gap xs ∷ ss)) to
gap_first P at from to xs ss e h =
    parts_join P at (at + size xs) to (parts Sep xs) (stretches_parts ss) (gap_found P at xs) (parts_from P from (at + size xs) to (stretches_parts ss) (sym e) h)

pub gaps_found : (P : ℕ → ItemTree → Type 0) (at : ℕ) (rs : List Row) → FoundParts P at (stretches_parts (gaps rs)) (at + width rs)
gaps_found P at [] = omega arith
gaps_found P at (r ∷ rs) =
    let n : ℕ = at + size (row_items r) in
    let z : n + width rs ≡ at + width (r ∷ rs) = omega (arith, size_both (row_items r) (all_items rs)) in
    gap_first P at n (at + width (r ∷ rs)) (row_items r) (gaps rs) refl
    (parts_to P n (n + width rs) (at + width (r ∷ rs)) (stretches_parts (gaps rs)) z (gaps_found P n rs))

-- ---- a delimiter with stray lines

delimiter_size : (rs : List Row)
    → size (delimiter_lead rs) + size (delimiter rs) + size (ending (from_sign (take (stray_len rs) rs))) + width (drop (stray_len rs) rs) ≡ width rs
delimiter_size rs =
    let n : ℕ = stray_len rs in
    let front : List Row = take n rs in
    let xs : List Item = from_sign front in
    let a : size (content xs ++ ending xs) ≡ size xs = ap size (content_ending xs) in
    let b : size (first_lead front ++ xs) ≡ width front = ap size (lead_sign front) in
    let c : width (front ++ drop n rs) ≡ width rs = ap width (take-append-drop n rs) in
    omega (arith, a, b, c, size_both (content xs) (ending xs), size_both (first_lead front) xs, width_both front (drop n rs))

-- behind its sign
delimiter_found : (P : ℕ → ItemTree → Type 0) (at to : ℕ) (rs : List Row) (ss : List Stretch) → FoundParts P (at + width rs) (stretches_parts ss) to
    → FoundParts P (at + size (delimiter_lead rs) + size (delimiter rs)) (stretches_parts (behind_delimiter rs ++ ss)) to
delimiter_found P at to rs ss h =
    let back : List Row = drop (stray_len rs) rs in
    let end : List Item = ending (from_sign (take (stray_len rs) rs)) in
    let from : ℕ = at + size (delimiter_lead rs) + size (delimiter rs) in
    let z : (from + size end) + width back ≡ at + width rs = omega (arith, delimiter_size rs) in
    gap_first P from (from + size end) to end (gaps back ++ ss) refl
    (stretches_join P (from + size end) ((from + size end) + width back) to (gaps back) ss (gaps_found P (from + size end) back)
    (parts_from P (at + width rs) ((from + size end) + width back) to (stretches_parts ss) (sym z) h))

-- ---- cells

cell_shell : (caption header : Bool) → housing_of (cell_kind caption header) ≡ a_shell
cell_shell true header = refl
cell_shell false true = refl
cell_shell false false = refl

cell_found : (P : ℕ → ItemTree → Type 0) (at to : ℕ) (caption : Bool) (c : Cell) (ss : List Stretch) → FoundParts P (at + size c.opening + size c.rest) (stretches_parts ss) to
    → FoundParts P at (stretches_parts (cell_by caption c ss)) to
cell_found P at to caption c ss h =
    let from : ℕ = at + size c.opening in
    opened_found P at to (with_attrs (cell_kind caption c.header) c.attrs) c.opening (block (line_parts c.rest) ∷ ss) (cell_shell caption c.header)
    (parts_join P from (from + size c.rest) to (line_parts c.rest) (stretches_parts ss) (line_found P from c.rest) h)

abbrev cells_size : List Cell → ℕ
cells_size [] = 0
cells_size (c ∷ cs) = size c.opening + size c.rest + cells_size cs

cells_found : (P : ℕ → ItemTree → Type 0) (at to : ℕ) (caption : Bool) (cs : List Cell) (ss : List Stretch) → FoundParts P (at + cells_size cs) (stretches_parts ss) to
    → FoundParts P at (stretches_parts (cells_by caption cs ss)) to
cells_found P at to caption [] ss h = let z : at + 0 ≡ at = omega arith in parts_from P (at + 0) at to (stretches_parts ss) z h
cells_found P at to caption (c ∷ []) ss h =
    let z : at + cells_size (c ∷ []) ≡ at + size c.opening + size c.rest = omega arith in
    cell_found P at to caption c ss (parts_from P (at + cells_size (c ∷ [])) (at + size c.opening + size c.rest) to (stretches_parts ss) z h)
cells_found P at to caption (c ∷ d ∷ cs) ss h =
    let mid : ℕ = at + size c.opening + size c.rest in
    let z : at + cells_size (c ∷ d ∷ cs) ≡ mid + cells_size (d ∷ cs) = omega arith in
    stretches_join P at mid to (cell_by caption c []) (cells_by caption (d ∷ cs) ss) (cell_found P at mid caption c [] refl)
    (cells_found P mid to caption (d ∷ cs) ss (parts_from P (at + cells_size (c ∷ d ∷ cs)) (mid + cells_size (d ∷ cs)) to (stretches_parts ss) z h))

cells_whole : (cs : List Cell) → cells_size cs ≡ size (flat_map whole cs)
cells_whole [] = refl
cells_whole (c ∷ cs) = let rest = cells_whole cs in omega (arith, rest, size_both (whole c) (flat_map whole cs), size_both c.opening c.rest)

-- a line of cells, and what is behind it
line_cells : (P : ℕ → ItemTree → Type 0) (at to : ℕ) (read : Reading) (caption : Bool) (r : Row) (rs : List Row)
    → FoundParts P (at + width (r ∷ [])) (stretches_parts (read rs)) to → FoundParts P at (stretches_parts (cell_stretches read caption (r ∷ rs))) to
unfolding cell_stretches
line_cells P at to read caption r rs h =
    let cs : List Cell = cells_from caption r.items in
    let a : ℕ = at + size r.lead in
    let b : ℕ = a + cells_size cs in
    let n : cells_size cs ≡ size r.items = cells_whole cs ∙ ap size (cells_joined caption r.items) in
    let z : b + size r.ending ≡ at + width (r ∷ []) = omega (arith, n, width_first r []) in
    gap_first P at a to r.lead (cells_by caption cs (gap r.ending ∷ read rs)) refl
    (cells_found P a to caption cs (gap r.ending ∷ read rs) (gap_first P b (at + width (r ∷ [])) to r.ending (read rs) z h))

-- ---- where rows are among all rows

-- rows of a body or a cell, by those before and behind them: no text is beside them
pub record IsAmong (all pre rs post : List Row) : Type 0 where
  pub is : all ≡ pre ++ (rs ++ post)
  pub in_cells : AllTrue (open_after [] pre)
  pub before : EndOtherwise line.Text pre
  pub behind : BeginOtherwise line.Text post

-- what is read of rows that are blocks there
abbrev pub ReadsFound : (ℕ → ItemTree → Type 0) → List Row → Reading → Type 0
ReadsFound P all read =
    (pre rs post : List Row) (us : List Block) → AreBlocks us rs → IsAmong all pre rs post → FoundParts P (width pre) (stretches_parts (read rs)) (width pre + width rs)

-- ---- kinds of rows beside them

pub end_behind : (k : LineKind) (xs : List Row) (r : Row) → (r.kind ≡ k → ⊥) → EndOtherwise k (xs ++ r ∷ [])
end_behind k [] r h = h
end_behind k (x ∷ []) r h = h
end_behind k (x ∷ y ∷ xs) r h = end_behind k (y ∷ xs) r h

part_no_text : (k : LineKind) → begins_part k ≡ true → k ≡ line.Text → ⊥
part_no_text k b e = let f : begins_part k ≡ false = ap begins_part e in absurd (cc)

cells_apart : (gs : List (List Row)) (post : List Row) → AllByRecursion AreCells gs → BeginOtherwise line.Text post → BeginOtherwise line.Text (joined gs ++ post)
cells_apart [] post h b = b
cells_apart ([] ∷ gs) post h b = absurd h.0
cells_apart ((r ∷ rs) ∷ gs) post h b = part_no_text r.kind h.0.0

begin_both : (k : LineKind) (rs more : List Row) → BeginOtherwise k rs → BeginOtherwise k more → BeginOtherwise k (rs ++ more)
begin_both k [] more h g = g
begin_both k (r ∷ rs) more h g = h

rows_apart : (rr : List (RowOf Row)) (post : List Row) → AllByRecursion IsRow rr → BeginOtherwise line.Text post → BeginOtherwise line.Text (flat_map row_lines rr ++ post)
rows_apart [] post h b = b
rows_apart (r ∷ rr) post h b =
    let more : List Row = flat_map row_lines rr ++ post in
    let cells : BeginOtherwise line.Text (joined r.cells ++ more) = cells_apart r.cells more h.0.1 (rows_apart rr post h.1 b) in
    let all : (r.opening ++ r.between) ++ (joined r.cells ++ more) ≡ flat_map row_lines (r ∷ rr) ++ post =
    sym (append_assoc (r.opening ++ r.between) (joined r.cells) more)
    ∙ ap (λ (xs : List Row). xs ++ more) (append_assoc r.opening r.between (joined r.cells)) ∙ sym (append_assoc (row_lines r) (flat_map row_lines rr) post) in
    subst (BeginOtherwise line.Text) all (begin_both line.Text (r.opening ++ r.between) (joined r.cells ++ more) h.0.0.0 cells)

-- ---- lines of cells

-- one of the open tables, round which each is at a line of cells
record OpenIn (pre : List Row) : Type 0 where
  top : Bool
  round : List Bool
  is : open_after [] pre ≡ top ∷ round
  cells : AllTrue round

further_open : (pre rs : List Row) (o : OpenIn pre) → (c : Bool) × (open_after (o.top ∷ o.round) rs ≡ c ∷ o.round) → OpenIn (pre ++ rs)
further_open pre rs o c = record {
  top = c.0;
  round = o.round;
  is = open_both [] pre rs ∙ ap (λ (bs : List Bool). open_after bs rs) o.is ∙ c.1;
  cells = o.cells;
}

cells_open : (pre : List Row) (r : Row) (rs : List Row) (us : List Block) (o : OpenIn pre) → begins_part r.kind ≡ true → is_row r.kind ≡ false → AreBlocks us rs
    → open_after (o.top ∷ o.round) (r ∷ rs) ≡ true ∷ o.round
cells_open pre r rs us o e f h = ap (λ (bs : List Bool). open_after bs rs) (cell_open o.top o.round r.kind e f) ∙ blocks_open (true ∷ o.round) us rs h

move : (pre : List Row) (r : Row) (rs post : List Row) → pre ++ ((r ∷ rs) ++ post) ≡ (pre ++ r ∷ []) ++ (rs ++ post)
move pre r rs post = sym (append_assoc pre (r ∷ []) (rs ++ post))

cells_among : (all pre : List Row) (r : Row) (rs more : List Row) (o : OpenIn pre) → begins_part r.kind ≡ true → is_row r.kind ≡ false
    → all ≡ pre ++ ((r ∷ rs) ++ more) → BeginOtherwise line.Text more → IsAmong all (pre ++ r ∷ []) rs more
cells_among all pre r rs more o e f is b = record {
  is = is ∙ move pre r rs more;
  in_cells =
      subst AllTrue (sym (open_both [] pre (r ∷ []) ∙ ap (λ (bs : List Bool). open_behind bs r.kind) o.is ∙ cell_open o.top o.round r.kind e f)) (refl, o.cells);
  before = end_behind line.Text pre r (part_no_text r.kind e);
  behind = b;
}

lines_found : (P : ℕ → ItemTree → Type 0) (all : List Row) (read : Reading) → ReadsFound P all read → (caption : Bool) (gs : List (List Row)) (pre post : List Row)
    → AllByRecursion AreCells gs → all ≡ pre ++ (joined gs ++ post) → OpenIn pre → BeginOtherwise line.Text post
    → FoundParts P (width pre) (stretches_parts (flat_map (cell_stretches read caption) gs)) (width (pre ++ joined gs))
lines_found P all read f caption [] pre post h is o b = ap width (sym (append-nil pre))
lines_found P all read f caption ([] ∷ gs) pre post h is o b = absurd h.0
lines_found P all read f caption ((r ∷ rs) ∷ gs) pre post h is o b =
    let us : List Block = h.0.2.its_blocks in
    let more : List Row = joined gs ++ post in
    let next : List Row = pre ++ r ∷ rs in
    let all_is : all ≡ pre ++ ((r ∷ rs) ++ more) = is ∙ ap (λ (xs : List Row). pre ++ xs) (append_assoc (r ∷ rs) (joined gs) post) in
    let among : IsAmong all (pre ++ r ∷ []) rs more = cells_among all pre r rs more o h.0.0 h.0.1 all_is (cells_apart gs post h.1 b) in
    let a : width (pre ++ r ∷ []) ≡ width pre + width (r ∷ []) = width_both pre (r ∷ []) in
    let e : width (pre ++ r ∷ []) + width rs ≡ width next =
    sym (width_both (pre ++ r ∷ []) rs) ∙ ap width (append_assoc pre (r ∷ []) rs) in
    let inside : FoundParts P (width pre + width (r ∷ [])) (stretches_parts (read rs)) (width next) =
    parts_from P (width (pre ++ r ∷ [])) (width pre + width (r ∷ [])) (width next) (stretches_parts (read rs)) a
    (parts_to P (width (pre ++ r ∷ [])) (width (pre ++ r ∷ []) + width rs) (width next) (stretches_parts (read rs)) e (f (pre ++ r ∷ []) rs more us h.0.2.are among)) in
    let end : width (next ++ joined gs) ≡ width (pre ++ joined ((r ∷ rs) ∷ gs)) = ap width (append_assoc pre (r ∷ rs) (joined gs)) in
    stretches_join P (width pre) (width next) (width (pre ++ joined ((r ∷ rs) ∷ gs))) (cell_stretches read caption (r ∷ rs)) (flat_map (cell_stretches read caption) gs)
    (line_cells P (width pre) (width next) read caption r rs inside)
    (parts_to P (width next) (width (next ++ joined gs)) (width (pre ++ joined ((r ∷ rs) ∷ gs))) (stretches_parts (flat_map (cell_stretches read caption) gs)) end
    (lines_found P all read f caption gs next post h.1 (all_is ∙ sym (append_assoc pre (r ∷ rs) more))
    (further_open pre (r ∷ rs) o (true, cells_open pre r rs us o h.0.0 h.0.1 h.0.2.are)) b))

-- ---- rows

row_by_found : (P : ℕ → ItemTree → Type 0) (at to : ℕ) (os : List Row) (cells : List Stretch) → FoundParts P (at + width os) (stretches_parts cells) to
    → FoundParts P at (stretches_parts (row_by os cells)) to
row_by_found P at to [] cells h =
    let z : at + 0 ≡ at = omega arith in
    enclosed_found P at to (plain kind.Tr) cells refl (parts_from P (at + 0) at to (stretches_parts cells) z h)
row_by_found P at to (r ∷ rs) cells h =
    let os : List Row = r ∷ rs in
    let a : ℕ = at + size (delimiter_lead os) in
    gap_first P at a to (delimiter_lead os) (opened_by (with_attrs kind.Tr (row_attributes r.items)) (delimiter os) (behind_delimiter os ++ cells)) refl
    (opened_found P a to (with_attrs kind.Tr (row_attributes r.items)) (delimiter os) (behind_delimiter os ++ cells) refl
    (delimiter_found P at to os cells h))

row_found : (P : ℕ → ItemTree → Type 0) (all : List Row) (read : Reading) → ReadsFound P all read → (r : RowOf Row) (pre post : List Row) → IsRow r
    → all ≡ pre ++ (row_lines r ++ post) → OpenIn pre → BeginOtherwise line.Text post → FoundParts P (width pre) (stretches_parts (row_stretches read r)) (width (pre ++ row_lines r))
unfolding row_stretches
row_found P all read f r pre post h is o b =
    let os : List Row = r.opening ++ r.between in
    let cs : List Row = joined r.cells in
    let own : os ++ cs ≡ row_lines r = append_assoc r.opening r.between cs in
    let next : List Row = pre ++ os in
    let now : all ≡ next ++ (cs ++ post) =
    is ∙ ap (λ (xs : List Row). pre ++ (xs ++ post)) (sym own) ∙ ap (λ (xs : List Row). pre ++ xs) (append_assoc os cs post)
    ∙ sym (append_assoc pre os (cs ++ post)) in
    let end : width (next ++ cs) ≡ width (pre ++ row_lines r) = ap width (append_assoc pre os cs ∙ ap (λ (xs : List Row). pre ++ xs) own) in
    let cells = lines_found P all read f false r.cells next post h.1 now (further_open pre os o (level_open os o.top o.round h.0.1)) b in
    row_by_found P (width pre) (width (pre ++ row_lines r)) os (flat_map (cell_stretches read false) r.cells)
    (parts_from P (width next) (width pre + width os) (width (pre ++ row_lines r)) (stretches_parts (flat_map (cell_stretches read false) r.cells)) (width_both pre os)
    (parts_to P (width next) (width (next ++ cs)) (width (pre ++ row_lines r)) (stretches_parts (flat_map (cell_stretches read false) r.cells)) end cells))

cells_level : (pre : List Row) (gs : List (List Row)) → AllByRecursion AreCells gs → OpenIn pre → OpenIn (pre ++ joined gs)
cells_level pre [] h o = subst OpenIn (sym (append-nil pre)) o
cells_level pre ([] ∷ gs) h o = absurd h.0
cells_level pre ((r ∷ rs) ∷ gs) h o =
    subst OpenIn (append_assoc pre (r ∷ rs) (joined gs))
    (cells_level (pre ++ r ∷ rs) gs h.1 (further_open pre (r ∷ rs) o (true, cells_open pre r rs h.0.2.its_blocks o h.0.0 h.0.1 h.0.2.are)))

row_level : (pre : List Row) (r : RowOf Row) → IsRow r → OpenIn pre → OpenIn (pre ++ row_lines r)
row_level pre r h o =
    let os : List Row = r.opening ++ r.between in
    subst OpenIn (append_assoc pre os (joined r.cells) ∙ ap (λ (xs : List Row). pre ++ xs) (append_assoc r.opening r.between (joined r.cells)))
    (cells_level (pre ++ os) r.cells h.1 (further_open pre os o (level_open os o.top o.round h.0.1)))

each_row_found : (P : ℕ → ItemTree → Type 0) (all : List Row) (read : Reading) → ReadsFound P all read → (rr : List (RowOf Row)) (pre post : List Row)
    → AllByRecursion IsRow rr → all ≡ pre ++ (flat_map row_lines rr ++ post) → OpenIn pre → BeginOtherwise line.Text post
    → FoundParts P (width pre) (stretches_parts (flat_map (row_stretches read) rr)) (width (pre ++ flat_map row_lines rr))
each_row_found P all read f [] pre post h is o b = ap width (sym (append-nil pre))
each_row_found P all read f (r ∷ rr) pre post h is o b =
    let more : List Row = flat_map row_lines rr in
    let next : List Row = pre ++ row_lines r in
    let all_is : all ≡ pre ++ (row_lines r ++ (more ++ post)) = is ∙ ap (λ (xs : List Row). pre ++ xs) (append_assoc (row_lines r) more post) in
    let end : width (next ++ more) ≡ width (pre ++ flat_map row_lines (r ∷ rr)) = ap width (append_assoc pre (row_lines r) more) in
    stretches_join P (width pre) (width next) (width (pre ++ flat_map row_lines (r ∷ rr))) (row_stretches read r) (flat_map (row_stretches read) rr)
    (row_found P all read f r pre (more ++ post) h.0 all_is o (rows_apart rr post h.1 b))
    (parts_to P (width next) (width (next ++ more)) (width (pre ++ flat_map row_lines (r ∷ rr))) (stretches_parts (flat_map (row_stretches read) rr)) end
    (each_row_found P all read f rr next post h.1 (all_is ∙ sym (append_assoc pre (row_lines r) (more ++ post))) (row_level pre r h.0 o) b))

rows_found : (P : ℕ → ItemTree → Type 0) (all : List Row) (read : Reading) → ReadsFound P all read → (rr : List (RowOf Row)) (pre post : List Row)
    → AllByRecursion IsRow rr → all ≡ pre ++ (flat_map row_lines rr ++ post) → OpenIn pre → BeginOtherwise line.Text post
    → FoundParts P (width pre) (stretches_parts (rows_stretches read rr)) (width (pre ++ flat_map row_lines rr))
rows_found P all read f [] pre post h is o b = ap width (sym (append-nil pre))
rows_found P all read f (r ∷ rr) pre post h is o b =
    enclosed_found P (width pre) (width (pre ++ flat_map row_lines (r ∷ rr))) (plain kind.Tbody) (flat_map (row_stretches read) (r ∷ rr)) refl
    (each_row_found P all read f (r ∷ rr) pre post h is o b)

-- ---- a table

inside_found : (P : ℕ → ItemTree → Type 0) (all : List Row) (read : Reading) → ReadsFound P all read → (first : Row) (t : TableOf Row) (pre post : List Row)
    → IsTable first t → all ≡ pre ++ ((joined t.captions ++ flat_map row_lines t.rows) ++ post) → OpenIn pre → BeginOtherwise line.Text post
    → FoundParts P (width pre) (stretches_parts (table_inside read t)) (width (pre ++ (joined t.captions ++ flat_map row_lines t.rows)))
inside_found P all read f first t pre post h is o b =
    let cs : List Row = joined t.captions in
    let rs : List Row = flat_map row_lines t.rows in
    let next : List Row = pre ++ cs in
    let all_is : all ≡ pre ++ (cs ++ (rs ++ post)) = is ∙ ap (λ (xs : List Row). pre ++ xs) (append_assoc cs rs post) in
    let end : width (next ++ rs) ≡ width (pre ++ (cs ++ rs)) = ap width (append_assoc pre cs rs) in
    stretches_join P (width pre) (width next) (width (pre ++ (cs ++ rs))) (flat_map (cell_stretches read true) t.captions) (rows_stretches read t.rows)
    (lines_found P all read f true t.captions pre (rs ++ post) h.captions all_is o (rows_apart t.rows post h.rows b))
    (parts_to P (width next) (width (next ++ rs)) (width (pre ++ (cs ++ rs))) (stretches_parts (rows_stretches read t.rows)) end
    (rows_found P all read f t.rows next post h.rows (all_is ∙ sym (append_assoc pre cs (rs ++ post))) (cells_level pre t.captions h.captions o) b))

-- the row that opens a table, and level rows behind it
table_open : (pre : List Row) (first : Row) (rest : List Row) → AllTrue (open_after [] pre) → first.kind ≡ line.TableOpen → Level 0 rest
    → OpenIn (pre ++ first ∷ rest)
table_open pre first rest h e l =
    let bs : List Bool = open_after [] pre in
    let c = level_open rest false bs l in
    record {
      top = c.0;
      round = bs;
      is = open_both [] pre (first ∷ rest) ∙ ap (λ (k : LineKind). open_after (open_behind bs k) rest) e ∙ c.1;
      cells = h;
    }

pub table_found : (P : ℕ → ItemTree → Type 0) (all : List Row) (read : Reading) → ReadsFound P all read → (first : Row) (t : TableOf Row) (last : Row) (pre post : List Row)
    → IsTable first t → first.kind ≡ line.TableOpen → (last.kind ≡ line.Text → ⊥) → AllTrue (open_after [] pre) → all ≡ pre ++ (table_lines t ++ (last ∷ post))
    → FoundParts P (width pre) (stretches_parts (table_by read t last)) (width (pre ++ table_lines t) + width (last ∷ []))
unfolding table_by
table_found P all read f first t last pre post h e nay cells is =
    let os : List Row = t.opening ++ t.between in
    let ins : List Row = joined t.captions ++ flat_map row_lines t.rows in
    let next : List Row = pre ++ os in
    let own : os ++ ins ≡ table_lines t = append_assoc t.opening t.between ins in
    let all_is : all ≡ next ++ (ins ++ (last ∷ post)) =
    is ∙ ap (λ (xs : List Row). pre ++ (xs ++ (last ∷ post))) (sym own) ∙ ap (λ (xs : List Row). pre ++ xs) (append_assoc os ins (last ∷ post))
    ∙ sym (append_assoc pre os (ins ++ (last ∷ post))) in
    let opens : OpenIn next = subst (λ (xs : List Row). OpenIn (pre ++ xs)) (sym h.opening) (table_open pre first h.rest cells e h.level) in
    let inside = inside_found P all read f first t next (last ∷ post) h all_is opens nay in
    let a : ℕ = width pre + size (delimiter_lead os) in
    let b : ℕ = a + size (delimiter os) in
    let end : ℕ = width (pre ++ table_lines t) in
    let end_is : width (next ++ ins) ≡ end = ap width (append_assoc pre os ins ∙ ap (λ (xs : List Row). pre ++ xs) own) in
    let head : Head = with_attrs kind.Table (table_attributes (first_items os)) in
    let ss : List Stretch = behind_delimiter os ++ (table_inside read t ++ (gap last.lead ∷ [])) in
    let to : ℕ = end + size last.lead in
    let tail : FoundParts P end (stretches_parts (gap last.lead ∷ [])) to = gap_first P end to to last.lead [] refl refl in
    let held : FoundParts P (width pre + width os) (stretches_parts (table_inside read t ++ (gap last.lead ∷ []))) to =
    stretches_join P (width pre + width os) end to (table_inside read t) (gap last.lead ∷ [])
    (parts_from P (width next) (width pre + width os) end (stretches_parts (table_inside read t)) (width_both pre os)
    (parts_to P (width next) (width (next ++ ins)) end (stretches_parts (table_inside read t)) end_is inside)) tail in
    let s : Shell P a (to + size last.items) (node_of head (delimiter os) ss last.items) =
    shell_found P a to head (delimiter os) last.items (stretches_parts ss) refl
    (delimiter_found P (width pre) to os (table_inside read t ++ (gap last.lead ∷ [])) held) in
    let all_end : ℕ = end + width (last ∷ []) in
    let z : (a + tree_size (node_of head (delimiter os) ss last.items)) + size last.ending ≡ all_end = omega (arith, s.ends, width_first last []) in
    gap_first P (width pre) a all_end (delimiter_lead os) (tree_block (node_of head (delimiter os) ss last.items) ∷ gap last.ending ∷ []) refl
    (s.found, gap_first P (a + tree_size (node_of head (delimiter os) ss last.items)) all_end all_end last.ending [] z refl)
