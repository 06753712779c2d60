-- Tables with their captions, rows and cells, where what is read in cells is written.
use Rattle.std.proofs.Common.{◌≡◌, ℕ, suc, ◌+◌, ◌*◌, ◌<◌, ◌≤◌, ◌⊎◌, Bool, true, false, List, [], ◌∷◌, ◌++◌, length, take, drop, get_or, inl, inr, refl, sym, ap, ap₂, ◌∙◌, subst, arith}
use Rattle.std.specs.Prelude.{◌==◌, ◌||◌, reverse, codes, if◌then◌else◌}
use Rattle.std.specs.List.{flat_map, prefix_len, AllByRecursion}
use Rattle.std.proofs.lemmas.Bool.{eqb-true}
use Rattle.std.proofs.lemmas.Bool.Decides.{nat_tests}
use Rattle.std.proofs.lemmas.List.{reverse-append, length-reverse, drop-map}
use Rattle.std.proofs.lemmas.List.Folds.{prefix_len-append}
use Rattle.std.proofs.lemmas.List.Sums.{prefix_len-le-length}
use Rattle.wt_html_grammar.proofs.Steps.{if_true, if_false}
use Rattle.wt_span.specs.Bytes.{begins}
use Rattle.wt_span.specs.Items.{Item, sign}
use Rattle.wt_lex.proofs.Begins.{begins_get, begins_len}
use Rattle.wt_tree.specs.declared.kind.AttrName.{AttrName}
use Rattle.wt_tree.specs.declared.kind.Kind.{Kind}
use Rattle.wt_tree.specs.declared.kind.Kind.TheVariants as kind
use Rattle.wt_tree.specs.declared.row.Placement.TheVariants.{Block, TablePart, TableRow}
use Rattle.wt_tree.specs.declared.row.Holding.TheVariants.{TableParts, TableRows, Cells}
use Rattle.wt_tree.specs.declared.row.Texts.TheVariants.{Separators}
use Rattle.wt_tree.specs.Kinds.{spelling}
use Rattle.wt_lines.specs.declared.kind.LineKind.{LineKind}
use Rattle.wt_lines.specs.declared.kind.LineKind.TheVariants as line
use Rattle.wt_lines.specs.Kinds.{is_idle}
use Rattle.wt_attributes.specs.Attributes.{attributes}
use Rattle.wt_tables.specs.Cells.{lead_len, is_dash, row_sign_len, table_attributes, row_attributes}
use Rattle.wt_tables.specs.Parts.{RowOf, TableOf, is_blank_kind, table_of}
use Rattle.wt_page.specs.Lines.{ending}
use Rattle.wt_page.specs.Rows.{Row, row_items, all_items, kind_of, signs}
use Rattle.wt_page.specs.Stretches.{Stretch, gap}
use Rattle.wt_page.specs.Tables.{Reading, cell_kind, cell_stretches, is_blank_row, stray_len, from_sign, delimiter, behind_delimiter, delimiter_lead, first_items, row_by, row_stretches, rows_stretches, table_inside, table_by, last_of, without_last, table}
use Rattle.wt_page_round_trip.proofs.OfPage.{ArePageItems, no_page_items}
use Rattle.wt_page_round_trip.proofs.PageLines.{IsBetween, all_both, both_page, all_taken, all_dropped, ending_between, content_page}
use Rattle.wt_page_round_trip.proofs.Boxes.{IsBox}
use Rattle.wt_page_round_trip.proofs.Stretched.{StandsIn, IsPlaced, ArePlaced, IsHolder, holder_node, holder_opened, holder_enclosed}
use Rattle.wt_page_round_trip.proofs.GoodRows.{IsGap, IsSeen, IsGoodRow, AreGoodRows, IsLowItem, low_ends, passing_low, behind_items, dash_low}
use Rattle.wt_page_round_trip.proofs.TextNodes.{first_gap, gap_items, gaps_placed}
use Rattle.wt_page_round_trip.proofs.ListOpenings.{more_taken, first_low}
use Rattle.wt_page_round_trip.proofs.ListNodes.{HoldsLists}
use Rattle.wt_page_round_trip.proofs.CellNodes.{AreStyles, styles_of, no_styles, low_items, row_cells}
use Rattle.wt_page_round_trip.proofs.RowUnits.{Walk}
use Rattle.wt_page_round_trip.proofs.TableRows.{AreCellRows, OpensRow, IsTableRow}

-- ---- blank rows at the end

blank_count : (r : Row) (rs : List Row) → prefix_len is_blank_row (reverse (r ∷ rs))
    ≡ (if prefix_len is_blank_row (reverse rs) == length (reverse rs) then length (reverse rs) + prefix_len is_blank_row (r ∷ [])
    else prefix_len is_blank_row (reverse rs))
blank_count r rs = ap (prefix_len is_blank_row) (reverse-append (r ∷ []) rs) ∙ prefix_len-append is_blank_row (reverse rs) (r ∷ [])

abbrev IsStray : Row → List Row → Type 0
IsStray r rs = ((stray_len (r ∷ rs) ≡ 0) × (stray_len rs ≡ 0) × (is_blank_row r ≡ true)) ⊎ (stray_len (r ∷ rs) ≡ suc (stray_len rs))

less : (m n : ℕ) → m ≤ n → (m == n) ≡ false → m < n
less m n l e = grind (arith, nat_tests)

stray_first : (r : Row) (rs : List Row) → IsStray r rs
stray_first r rs = by_test (prefix_len is_blank_row (reverse rs) == length (reverse rs)) (is_blank_row r) refl refl
  where
    by_test : (t u : Bool) → (prefix_len is_blank_row (reverse rs) == length (reverse rs)) ≡ t → is_blank_row r ≡ u → IsStray r rs
    by_test true true e b =
        let f : prefix_len is_blank_row (reverse rs) ≡ length (reverse rs) = eqb-true _ _ e in
        let n : length (reverse rs) ≡ length rs = length-reverse rs in
        let one : prefix_len is_blank_row (r ∷ []) ≡ 1 + 0 = if_true (is_blank_row r) _ _ b in
        let c : prefix_len is_blank_row (reverse (r ∷ rs)) ≡ length (reverse rs) + prefix_len is_blank_row (r ∷ []) = blank_count r rs ∙ if_true _ _ _ e in
        inl (omega (arith, f, n, one, c), omega (arith, f, n), b)
    by_test true false e b =
        let f : prefix_len is_blank_row (reverse rs) ≡ length (reverse rs) = eqb-true _ _ e in
        let n : length (reverse rs) ≡ length rs = length-reverse rs in
        let none : prefix_len is_blank_row (r ∷ []) ≡ 0 = if_false (is_blank_row r) _ _ b in
        let c : prefix_len is_blank_row (reverse (r ∷ rs)) ≡ length (reverse rs) + prefix_len is_blank_row (r ∷ []) = blank_count r rs ∙ if_true _ _ _ e in
        inr (omega (arith, f, n, none, c))
    by_test false u e b =
        let n : length (reverse rs) ≡ length rs = length-reverse rs in
        let c : prefix_len is_blank_row (reverse (r ∷ rs)) ≡ prefix_len is_blank_row (reverse rs) = blank_count r rs ∙ if_false _ _ _ e in
        let le : prefix_len is_blank_row (reverse rs) ≤ length (reverse rs) = prefix_len-le-length is_blank_row (reverse rs) in
        let lt : prefix_len is_blank_row (reverse rs) < length (reverse rs) = less _ _ le e in
        inr (omega (arith, n, c, lt))

abbrev AreBlankRows : List Row → Type 0
AreBlankRows rs = AllByRecursion (λ r. is_blank_row r ≡ true) rs

blank_at_end : (rs : List Row) → AreBlankRows (drop (stray_len rs) rs)
blank_at_end [] = tt
blank_at_end (r ∷ rs) = by_stray (stray_first r rs) (blank_at_end rs)
  where
    by_stray : IsStray r rs → AreBlankRows (drop (stray_len rs) rs) → AreBlankRows (drop (stray_len (r ∷ rs)) (r ∷ rs))
    by_stray (inl q) a = subst (λ n. AreBlankRows (drop n (r ∷ rs))) (sym q.0) (q.2, subst (λ n. AreBlankRows (drop n rs)) q.1 a)
    by_stray (inr q) a = subst (λ n. AreBlankRows (drop n (r ∷ rs))) (sym q) a

blank_seen : (k : LineKind) (xs : List Item) → IsSeen k xs → is_blank_kind k ≡ true → AllByRecursion IsBetween xs
blank_seen line.Blank xs s e = s
blank_seen k xs s e = absurd cc

none_between : (xs : List Item) → (length xs == 0) ≡ true → AllByRecursion IsBetween xs
none_between [] e = tt
none_between (x ∷ xs) e = absurd (let f : suc (length xs) ≡ 0 = eqb-true (suc (length xs)) 0 e in omega (arith, f))

blank_between : (r : Row) → IsGoodRow r → is_blank_row r ≡ true → AllByRecursion IsBetween r.items
blank_between r g e = by_test (is_blank_kind r.kind) refl e
  where
    by_test : (t : Bool) → is_blank_kind r.kind ≡ t → (t || (length r.items == 0)) ≡ true → AllByRecursion IsBetween r.items
    by_test true f h = blank_seen r.kind r.items g.seen f
    by_test false f h = none_between r.items h

blanks_between : (rs : List Row) → AreGoodRows rs → AreBlankRows rs → AllByRecursion (λ r. AllByRecursion IsBetween r.items) rs
blanks_between [] g a = tt
blanks_between (r ∷ rs) g a = (blank_between r g.0 a.0, blanks_between rs g.1 a.1)

-- ---- delimiters with stray lines

rows_items : (rs : List Row) → AreGoodRows rs → ArePageItems (all_items rs)
rows_items [] g = no_page_items
rows_items (r ∷ rs) g =
    both_page (row_items r) (all_items rs)
    (both_page r.lead (r.items ++ r.ending) (gap_items r.lead g.0.lead) (both_page r.items r.ending g.0.items (gap_items r.ending g.0.ending)))
    (rows_items rs g.1)

sign_items : (rs : List Row) → AreGoodRows rs → ArePageItems (from_sign rs)
sign_items [] g = no_page_items
sign_items (r ∷ rs) g =
    both_page r.items (r.ending ++ all_items rs) g.0.items (both_page r.ending (all_items rs) (gap_items r.ending g.0.ending) (rows_items rs g.1))

lead_gap : (rs : List Row) → AreGoodRows rs → IsGap (delimiter_lead rs)
lead_gap rs g = first_gap (take (stray_len rs) rs) (all_taken IsGoodRow (stray_len rs) rs g)

delimiter_items : (rs : List Row) → AreGoodRows rs → ArePageItems (delimiter rs)
delimiter_items rs g =
    let front : List Row = take (stray_len rs) rs in
    (content_page (from_sign front) (sign_items front (all_taken IsGoodRow (stray_len rs) rs g))).0

behind_placed : (k : ℕ) (q : Kind) (rs : List Row) → AreGoodRows rs → ArePlaced k q (behind_delimiter rs)
behind_placed k q rs g =
    let n : ℕ = stray_len rs in
    let front : List Row = take n rs in
    let rest : AreGoodRows (drop n rs) = all_dropped IsGoodRow n rs g in
    let e : ArePageItems (ending (from_sign front)) = (content_page (from_sign front) (sign_items front (all_taken IsGoodRow n rs g))).1 in
    ((e.page, ending_between (from_sign front)), gaps_placed k q (drop n rs) rest (blanks_between (drop n rs) rest (blank_at_end rs)))

-- ---- attributes

first_seen : (w : List ℕ) (xs : List Item) → begins w (signs xs) ≡ true → 0 < length w → is_idle (get_or w 0 0) ≡ false → lead_len xs ≡ 0
first_seen w [] e some h = refl
first_seen w (x ∷ xs) e some h =
    let at : sign x ≡ get_or w 0 0 = begins_get w (signs (x ∷ xs)) e 0 some in
    if_false (is_idle (sign x)) _ _ (ap is_idle at ∙ h)

open_styles : (xs : List Item) → ArePageItems xs → begins (codes "{|") (signs xs) ≡ true → AreStyles (table_attributes xs)
unfolding table_attributes
open_styles xs h e =
    let n : 2 ≤ length (signs xs) = begins_len (codes "{|") (signs xs) e in
    let at : get_or (signs xs) 1 0 ≡ 124 = begins_get (codes "{|") (signs xs) e 1 (omega arith) in
    let behind : ArePageItems (drop 2 xs) = (low_items 2 xs h (λ some less. inl (omega (arith, at)))).1 in
    subst (λ m. AreStyles (attributes (drop 2 (drop m xs)))) (sym (first_seen (codes "{|") xs e (omega arith) refl)) (styles_of (drop 2 xs) behind)

row_styles : (xs : List Item) → ArePageItems xs → begins (codes "|-") (signs xs) ≡ true → AreStyles (row_attributes xs)
unfolding row_attributes
row_styles xs h e =
    let at : get_or (signs xs) 0 0 ≡ 124 = begins_get (codes "|-") (signs xs) e 0 (omega arith) in
    let n : ℕ = prefix_len is_dash (drop 1 (signs xs)) in
    let dashes : AllByRecursion IsLowItem (take n (drop 1 xs)) =
    subst (λ (ss : List ℕ). AllByRecursion IsLowItem (take (prefix_len is_dash ss) (drop 1 xs))) (sym (drop-map sign 1 xs))
    (passing_low is_dash dash_low (drop 1 xs)) in
    let low : AllByRecursion IsLowItem (take (1 + n) xs) = more_taken IsLowItem 1 n xs (first_low xs (omega (arith, at))) dashes in
    let behind : ArePageItems (drop (row_sign_len (signs xs)) xs) = (behind_items (1 + n) xs h (low_ends (take (1 + n) xs) low)).1 in
    subst (λ m. AreStyles (attributes (drop (row_sign_len (signs (drop m xs))) (drop m xs)))) (sym (first_seen (codes "|-") xs e (omega arith) refl))
    (styles_of (drop (row_sign_len (signs xs)) xs) behind)

-- ---- kinds

table_holder : IsHolder kind.Table
unfolding spelling
table_holder = record {
  round = record { class = Block; holding = TableParts; texts = Separators; shape_is = refl; level = refl; shows = refl };
  holds = record { texts = refl; takes = record { kind = refl; stands = λ bs e. e } };
  block = refl;
}

body_holder : IsHolder kind.Tbody
unfolding spelling
body_holder = record {
  round = record { class = TablePart; holding = TableRows; texts = Separators; shape_is = refl; level = refl; shows = refl };
  holds = record { texts = refl; takes = record { kind = refl; stands = λ bs e. e } };
  block = refl;
}

row_holder : IsHolder kind.Tr
unfolding spelling
row_holder = record {
  round = record { class = TableRow; holding = Cells; texts = Separators; shape_is = refl; level = refl; shows = refl };
  holds = record { texts = refl; takes = record { kind = refl; stands = λ bs e. e } };
  block = refl;
}

table_box : (attrs : List (AttrName × List ℕ)) (opening closing : List Item) → AreStyles attrs → ArePageItems opening → ArePageItems closing
    → IsBox kind.Table attrs opening closing
unfolding spelling
table_box attrs opening closing a u v = record { attrs = a; opening = u; closing = v }

body_box : IsBox kind.Tbody [] [] []
unfolding spelling
body_box = record { attrs = refl; opening = no_page_items; closing = no_page_items }

row_box : (attrs : List (AttrName × List ℕ)) (opening : List Item) → AreStyles attrs → ArePageItems opening → IsBox kind.Tr attrs opening []
unfolding spelling
row_box attrs opening a u = record { attrs = a; opening = u; closing = no_page_items }

-- blocks where they may stand
pub record HoldsBlocks (q : Kind) : Type 0 where
  pub lists : HoldsLists q
  pub para : StandsIn q kind.Para
  pub pre : StandsIn q kind.Pre
  pub rule : StandsIn q kind.Rule
  pub table : StandsIn q kind.Table
  pub heading : (n : ℕ) → StandsIn q (kind.Heading n)

pub body_blocks : HoldsBlocks kind.Body
body_blocks = record {
  lists = record { ul = refl; ol = refl; dl = refl };
  para = refl;
  pre = refl;
  rule = refl;
  table = refl;
  heading = λ n. refl;
}

cell_blocks : (caption header : Bool) → HoldsBlocks (cell_kind caption header)
cell_blocks true header = record {
  lists = record { ul = refl; ol = refl; dl = refl };
  para = refl;
  pre = refl;
  rule = refl;
  table = refl;
  heading = λ n. refl;
}
cell_blocks false true = record {
  lists = record { ul = refl; ol = refl; dl = refl };
  para = refl;
  pre = refl;
  rule = refl;
  table = refl;
  heading = λ n. refl;
}
cell_blocks false false = record {
  lists = record { ul = refl; ol = refl; dl = refl };
  para = refl;
  pre = refl;
  rule = refl;
  table = refl;
  heading = λ n. refl;
}

captions_stand : (header : Bool) → StandsIn kind.Table (cell_kind true header)
captions_stand header = refl

cells_stand : (header : Bool) → StandsIn kind.Tr (cell_kind false header)
cells_stand true = refl
cells_stand false = refl

rows_stand : StandsIn kind.Tbody kind.Tr
rows_stand = refl

body_stands : StandsIn kind.Table kind.Tbody
body_stands = refl

-- ---- what is read in cells

-- rows in which at most m tables stand one in another are written, wherever blocks may stand, within so many elements
abbrev pub Reads : Reading → ℕ → Type 0
Reads read m = (j : ℕ) (q : Kind) → HoldsBlocks q → j + 4 * m < 78 → (rs : List Row) → AreGoodRows rs → Walk m 0 rs
    → ArePlaced j q (read rs)

cell_rows : (read : Reading) (m : ℕ) → Reads read m → (k : ℕ) (parent : Kind) (caption : Bool)
    → ((header : Bool) → StandsIn parent (cell_kind caption header)) → suc k + 4 * m < 78 → (g : List Row) → AreCellRows m caption g
    → ArePlaced k parent (cell_stretches read caption g)
unfolding cell_stretches
cell_rows read m i k parent caption s small [] c = tt
cell_rows read m i k parent caption s small (r ∷ rest) c =
    row_cells k parent caption s r c.good c.sign (read rest)
    (λ header. i (suc k) (cell_kind caption header) (cell_blocks caption header) small rest c.rows c.walk) (omega (arith, small))

cell_groups : (read : Reading) (m : ℕ) → Reads read m → (k : ℕ) (parent : Kind) (caption : Bool)
    → ((header : Bool) → StandsIn parent (cell_kind caption header)) → suc k + 4 * m < 78 → (gs : List (List Row))
    → AllByRecursion (AreCellRows m caption) gs → ArePlaced k parent (flat_map (cell_stretches read caption) gs)
cell_groups read m i k parent caption s small [] a = tt
cell_groups read m i k parent caption s small (g ∷ gs) a =
    all_both (IsPlaced k parent) (cell_stretches read caption g) (flat_map (cell_stretches read caption) gs)
    (cell_rows read m i k parent caption s small g a.0) (cell_groups read m i k parent caption s small gs a.1)

-- ---- rows

row_by_placed : (k : ℕ) (rs : List Row) → OpensRow rs → (cells : List Stretch) → k < 190 → ArePlaced (suc k) kind.Tr cells
    → ArePlaced k kind.Tbody (row_by rs cells)
row_by_placed k [] o cells small a =
    holder_enclosed k kind.Tbody kind.Tr row_holder (row_box [] [] no_styles no_page_items) cells (omega (arith, small)) rows_stand a
row_by_placed k (r ∷ rs) o cells small a =
    let open_items : ArePageItems r.items = o.1.0.items in (
      lead_gap (r ∷ rs) o.1,
      holder_opened k kind.Tbody kind.Tr row_holder (row_attributes r.items) (delimiter (r ∷ rs))
          (row_box (row_attributes r.items) (delimiter (r ∷ rs)) (row_styles r.items open_items o.0) (delimiter_items (r ∷ rs) o.1))
          (behind_delimiter (r ∷ rs) ++ cells) (omega (arith, small)) rows_stand
          (all_both (IsPlaced (suc k) kind.Tr) (behind_delimiter (r ∷ rs)) cells (behind_placed (suc k) kind.Tr (r ∷ rs) o.1) a),
    )

row_placed : (read : Reading) (m : ℕ) → Reads read m → (k : ℕ) → k + 2 + 4 * m < 78 → (x : RowOf Row) → IsTableRow m x
    → ArePlaced k kind.Tbody (row_stretches read x)
unfolding row_stretches
row_placed read m i k small x h =
    row_by_placed k (x.opening ++ x.between) h.opens (flat_map (cell_stretches read false) x.cells) (omega (arith, small))
    (cell_groups read m i (suc k) kind.Tr false cells_stand (omega (arith, small)) x.cells h.cells)

rows_by : (read : Reading) (m : ℕ) → Reads read m → (k : ℕ) → k + 2 + 4 * m < 78 → (xs : List (RowOf Row)) → AllByRecursion (IsTableRow m) xs
    → ArePlaced k kind.Tbody (flat_map (row_stretches read) xs)
rows_by read m i k small [] a = tt
rows_by read m i k small (x ∷ xs) a =
    all_both (IsPlaced k kind.Tbody) (row_stretches read x) (flat_map (row_stretches read) xs) (row_placed read m i k small x a.0)
    (rows_by read m i k small xs a.1)

rows_placed : (read : Reading) (m : ℕ) → Reads read m → (k : ℕ) → k + 3 + 4 * m < 78 → (xs : List (RowOf Row)) → AllByRecursion (IsTableRow m) xs
    → ArePlaced k kind.Table (rows_stretches read xs)
rows_placed read m i k small [] a = tt
rows_placed read m i k small (x ∷ xs) a =
    holder_enclosed k kind.Table kind.Tbody body_holder body_box (flat_map (row_stretches read) (x ∷ xs)) (omega (arith, small)) body_stands
    (rows_by read m i (suc k) (omega (arith, small)) (x ∷ xs) a)

-- ---- tables

-- the parts of a table
pub record AreTableParts (m : ℕ) (t : TableOf Row) : Type 0 where
  pub opens : begins (codes "{|") (signs (first_items (t.opening ++ t.between))) ≡ true
  pub first : ArePageItems (first_items (t.opening ++ t.between))
  pub delimiter : AreGoodRows (t.opening ++ t.between)
  pub captions : AllByRecursion (AreCellRows m true) t.captions
  pub rows : AllByRecursion (IsTableRow m) t.rows

pub table_by_placed : (read : Reading) (m : ℕ) → Reads read m → (k : ℕ) (parent : Kind) → StandsIn parent kind.Table → k + 4 * suc m < 78
    → (t : TableOf Row) → AreTableParts m t → (end : Row) → IsGoodRow end → ArePlaced k parent (table_by read t end)
unfolding table_by
table_by_placed read m i k parent s small t h end g =
    let rs : List Row = t.opening ++ t.between in
    let attrs : List (AttrName × List ℕ) = table_attributes (first_items rs) in
    let inside : ArePlaced (suc k) kind.Table (table_inside read t) =
    all_both (IsPlaced (suc k) kind.Table) (flat_map (cell_stretches read true) t.captions) (rows_stretches read t.rows)
    (cell_groups read m i (suc k) kind.Table true captions_stand (omega (arith, small)) t.captions h.captions)
    (rows_placed read m i (suc k) (omega (arith, small)) t.rows h.rows) in
    let all : ArePlaced (suc k) kind.Table (behind_delimiter rs ++ (table_inside read t ++ (gap end.lead ∷ []))) =
    all_both (IsPlaced (suc k) kind.Table) (behind_delimiter rs) (table_inside read t ++ (gap end.lead ∷ [])) (behind_placed (suc k) kind.Table rs h.delimiter)
    (all_both (IsPlaced (suc k) kind.Table) (table_inside read t) (gap end.lead ∷ []) inside (g.lead, tt)) in (
      lead_gap rs h.delimiter,
      (
        holder_node k parent kind.Table table_holder attrs (delimiter rs) end.items
            (table_box attrs (delimiter rs) end.items (open_styles (first_items rs) h.first h.opens) (delimiter_items rs h.delimiter)
            g.items)
            (behind_delimiter rs ++ (table_inside read t ++ (gap end.lead ∷ []))) (omega (arith, small)) s all,
        (g.ending, tt),
      ),
    )

without_is : (x : Row) (xs : List Row) (last : Row) → without_last x (xs ++ (last ∷ [])) ≡ x ∷ xs
without_is x [] last = refl
without_is x (y ∷ ys) last = ap (λ rs. x ∷ rs) (without_is y ys last)

last_is : (x : Row) (xs : List Row) (last : Row) → last_of x (xs ++ (last ∷ [])) ≡ last
last_is x [] last = refl
last_is x (y ∷ ys) last = last_is y ys last

pub table_is : (read : Reading) (r : Row) (inside : List Row) (last : Row)
    → table read (r ∷ (inside ++ (last ∷ []))) ≡ table_by read (table_of kind_of r inside) last
table_is read r [] last = refl
table_is read r (x ∷ xs) last = ap₂ (λ (rs : List Row) (e : Row). table_by read (table_of kind_of r rs) e) (without_is x xs last) (last_is x xs last)
