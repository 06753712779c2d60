-- A table, whatever rows are in one of its cells.
use Rattle.std.proofs.Common.{◌≡◌, ℕ, zero, suc, Bool, true, false, List, [], ◌∷◌, ◌++◌, map, take, drop, refl, sym, ap, ◌∙◌, subst, inl, inr}
use Rattle.std.specs.Prelude.{not, if◌then◌else◌}
use Rattle.std.specs.List.{AllByRecursion, flat_map, prefix_len}
use Rattle.std.proofs.lemmas.List.{map-append}
use Rattle.std.proofs.lemmas.Grind.{flat_map-append}
use Rattle.wt_tree.specs.declared.kind.Kind.{Kind}
use Rattle.wt_tree.specs.declared.kind.Kind.TheVariants as kind
use Rattle.wt_span.specs.Items.{Item}
use Rattle.wt_span.specs.Runs.{put, runs, IsRun}
use Rattle.wt_span.proofs.RunLaws.{runs_cut}
use Rattle.wt_lines.specs.declared.kind.LineKind.{LineKind}
use Rattle.wt_lines.specs.declared.kind.LineKind.TheVariants as line
use Rattle.wt_tables.specs.declared.scan.Splits.{Splits}
use Rattle.wt_tables.specs.Cells.{signs as cell_signs, Cell, splits_at, onto, parts as cell_parts, split_by, header_by, cells_in, cells_from}
use Rattle.wt_tables.specs.Parts.{RowOf, TableOf, joined, units, begins_part, begins_group, groups, group_kind, is_row, is_caption, with_stray, past_stray, plain_len, captions_len, table_by as parts_by, table_of, row_by as row_parts, row_of, rows_of}
use Rattle.wt_inline.specs.ItemTree.{Head, plain, ItemTree}
use Rattle.wt_page.specs.Rows.{Row, kind_of}
use Rattle.wt_page.proofs.HeldBody.{units_joined}
use Rattle.wt_page.specs.Stretches.{Stretch, gap, block, tree_block, node_of, opened_by, enclosed}
use Rattle.wt_page.specs.Tables.{Reading, cell_by, cells_by, cell_stretches, delimiter, behind_delimiter, delimiter_lead, first_items, row_by, row_stretches, rows_stretches, table_by, with_attrs, cell_kind}
use Rattle.wt_tables.specs.Cells.{table_attributes, row_attributes}
use Rattle.wt_context.specs.Line.{line_parts}
use Rattle.wt_part_laws.specs.Rounds.{IsCellKind, Holder, AreCellHolders, is_cell, BeginNoPart}
use Rattle.wt_part_laws.proofs.Apart.{runs_apart, all_apart}
use Rattle.wt_part_laws.proofs.Fitting.{Fits, first_taken, rest_dropped, fits_same, fits_behind, fits_before, Raises, fits_node, fits_opened, fits_enclosed}

abbrev pub Group : Type 0
Group = List (List Row)

-- ---- the rows round one group

abbrev same_row : Group → Group → Bool
same_row g h = not (is_row (group_kind kind_of h))

-- the rows before and behind the group's, and the groups before and behind it in this
pub record RowRound (I : Type 0) (xs : List Group) (y : I → Group) (ys : List Group) : Type 0 where
  pub front : List (List Group)
  pub before : List Group
  pub behind : List Group
  pub back : List (List Group)
  pub is : (i : I) → runs same_row (xs ++ y i ∷ ys) ≡ front ++ (before ++ y i ∷ behind) ∷ back

first_by : (I : Type 0) (y : I → Group) (ys : List Group) (v : Bool) (z : Group) (zs : List Group) (rs : List (List Group))
    → runs same_row ys ≡ (z ∷ zs) ∷ rs → not (is_row (group_kind kind_of z)) ≡ v → RowRound I [] y ys
first_by I y ys true z zs rs e f = record {
  front = [];
  before = [];
  behind = z ∷ zs;
  back = rs;
  is = λ i. ap (put same_row (y i)) e ∙ ap (λ (v : Bool). if v then (y i ∷ z ∷ zs) ∷ rs else (y i ∷ []) ∷ (z ∷ zs) ∷ rs) f;
}
first_by I y ys false z zs rs e f = record {
  front = [];
  before = [];
  behind = [];
  back = (z ∷ zs) ∷ rs;
  is = λ i. ap (put same_row (y i)) e ∙ ap (λ (v : Bool). if v then (y i ∷ z ∷ zs) ∷ rs else (y i ∷ []) ∷ (z ∷ zs) ∷ rs) f;
}

row_first : (I : Type 0) (y : I → Group) (ys : List Group) (rs : List (List Group)) → runs same_row ys ≡ rs → RowRound I [] y ys
row_first I y ys [] e = record { front = []; before = []; behind = []; back = []; is = λ i. ap (put same_row (y i)) e }
row_first I y ys ([] ∷ rs) e = record { front = []; before = []; behind = []; back = rs; is = λ i. ap (put same_row (y i)) e }
row_first I y ys ((z ∷ zs) ∷ rs) e = first_by I y ys (not (is_row (group_kind kind_of z))) z zs rs e refl

abbrev put_by : Bool → Group → Group → List Group → List (List Group) → List (List Group)
put_by v x g gs rs = if v then (x ∷ g ∷ gs) ∷ rs else (x ∷ []) ∷ (g ∷ gs) ∷ rs

in_row : (I : Type 0) (x : Group) (xs : List Group) (y : I → Group) (ys : List Group) (v : Bool) (g : Group) (gs behind : List Group) (back : List (List Group))
    → ((i : I) → runs same_row (xs ++ y i ∷ ys) ≡ ((g ∷ gs) ++ y i ∷ behind) ∷ back) → not (is_row (group_kind kind_of g)) ≡ v → RowRound I (x ∷ xs) y ys
in_row I x xs y ys true g gs behind back e f = record {
  front = [];
  before = x ∷ g ∷ gs;
  behind = behind;
  back = back;
  is = λ i. ap (put same_row x) (e i) ∙ ap (λ (v : Bool). put_by v x g (gs ++ y i ∷ behind) back) f;
}
in_row I x xs y ys false g gs behind back e f = record {
  front = (x ∷ []) ∷ [];
  before = g ∷ gs;
  behind = behind;
  back = back;
  is = λ i. ap (put same_row x) (e i) ∙ ap (λ (v : Bool). put_by v x g (gs ++ y i ∷ behind) back) f;
}

row_before : (I : Type 0) (x : Group) (xs : List Group) (y : I → Group) (ys : List Group) (v : Bool) (g : Group) (gs : List Group) (fs : List (List Group))
    (before behind : List Group) (back : List (List Group))
    → ((i : I) → runs same_row (xs ++ y i ∷ ys) ≡ (g ∷ gs) ∷ fs ++ (before ++ y i ∷ behind) ∷ back) → not (is_row (group_kind kind_of g)) ≡ v
    → RowRound I (x ∷ xs) y ys
row_before I x xs y ys true g gs fs before behind back e f = record {
  front = (x ∷ g ∷ gs) ∷ fs;
  before = before;
  behind = behind;
  back = back;
  is = λ i. ap (put same_row x) (e i) ∙ ap (λ (v : Bool). put_by v x g gs (fs ++ (before ++ y i ∷ behind) ∷ back)) f;
}
row_before I x xs y ys false g gs fs before behind back e f = record {
  front = (x ∷ []) ∷ (g ∷ gs) ∷ fs;
  before = before;
  behind = behind;
  back = back;
  is = λ i. ap (put same_row x) (e i) ∙ ap (λ (v : Bool). put_by v x g gs (fs ++ (before ++ y i ∷ behind) ∷ back)) f;
}

row_put : (I : Type 0) (x : Group) (xs : List Group) (y : I → Group) (ys : List Group) (front : List (List Group)) (before behind : List Group)
    (back : List (List Group)) → ((i : I) → runs same_row (xs ++ y i ∷ ys) ≡ front ++ (before ++ y i ∷ behind) ∷ back)
    → ((i : I) → not (is_row (group_kind kind_of (y i))) ≡ true) → RowRound I (x ∷ xs) y ys
row_put I x xs y ys [] [] behind back e j = record {
  front = [];
  before = x ∷ [];
  behind = behind;
  back = back;
  is = λ i. ap (put same_row x) (e i) ∙ ap (λ (v : Bool). put_by v x (y i) behind back) (j i);
}
row_put I x xs y ys [] (g ∷ gs) behind back e j = in_row I x xs y ys (not (is_row (group_kind kind_of g))) g gs behind back e refl
row_put I x xs y ys ([] ∷ fs) before behind back e j = record {
  front = (x ∷ []) ∷ fs;
  before = before;
  behind = behind;
  back = back;
  is = λ i. ap (put same_row x) (e i);
}
row_put I x xs y ys ((g ∷ gs) ∷ fs) before behind back e j =
    row_before I x xs y ys (not (is_row (group_kind kind_of g))) g gs fs before behind back e refl

row_round : (I : Type 0) (xs : List Group) (y : I → Group) (ys : List Group) → ((i : I) → not (is_row (group_kind kind_of (y i))) ≡ true) → RowRound I xs y ys
row_round I [] y ys j = row_first I y ys (runs same_row ys) refl
row_round I (x ∷ xs) y ys j = let r = row_round I xs y ys j in row_put I x xs y ys r.front r.before r.behind r.back r.is j

-- ---- kinds of lines

cell_begins : (k : LineKind) → is_cell k ≡ true → begins_part k ≡ true
cell_begins line.Cell e = refl
cell_begins line.Header e = refl
cell_begins line.Blank e = cc
cell_begins line.TableOpen e = cc
cell_begins line.TableEnd e = cc
cell_begins line.Caption e = cc
cell_begins line.Row e = cc
cell_begins line.Heading e = cc
cell_begins line.Rule e = cc
cell_begins line.List e = cc
cell_begins line.Pre e = cc
cell_begins line.Text e = cc

cell_no_row : (k : LineKind) → is_cell k ≡ true → is_row k ≡ false
cell_no_row line.Cell e = refl
cell_no_row line.Header e = refl
cell_no_row line.Blank e = refl
cell_no_row line.TableOpen e = refl
cell_no_row line.TableEnd e = refl
cell_no_row line.Caption e = refl
cell_no_row line.Row e = cc
cell_no_row line.Heading e = refl
cell_no_row line.Rule e = refl
cell_no_row line.List e = refl
cell_no_row line.Pre e = refl
cell_no_row line.Text e = refl

cell_no_caption : (k : LineKind) → is_cell k ≡ true → is_caption k ≡ false
cell_no_caption line.Cell e = refl
cell_no_caption line.Header e = refl
cell_no_caption line.Blank e = refl
cell_no_caption line.TableOpen e = refl
cell_no_caption line.TableEnd e = refl
cell_no_caption line.Caption e = cc
cell_no_caption line.Row e = refl
cell_no_caption line.Heading e = refl
cell_no_caption line.Rule e = refl
cell_no_caption line.List e = refl
cell_no_caption line.Pre e = refl
cell_no_caption line.Text e = refl

-- ---- groups

abbrev goes_on : List Row → List Row → Bool
goes_on u v = not (begins_group kind_of v)

abbrev pub IsPlain : List Row → Type 0
IsPlain u = begins_group kind_of u ≡ false

abbrev pub FirstBegins : List (List Row) → Type 0
FirstBegins [] = Unit {0}
FirstBegins (u ∷ us) = begins_group kind_of u ≡ true

group_run : (u : List Row) (vs ws : List (List Row)) → AllByRecursion IsPlain vs → FirstBegins ws → IsRun goes_on (u ∷ vs) ws
group_run u [] [] h b = tt
group_run u [] (w ∷ ws) h b = ap not b
group_run u (v ∷ vs) ws h b = (ap not h.0, group_run v vs ws h.1 b)

pub groups_round : (us vs ws : List (List Row)) (u : List Row) → begins_group kind_of u ≡ true → AllByRecursion IsPlain vs → FirstBegins ws
    → groups kind_of (us ++ u ∷ (vs ++ ws)) ≡ groups kind_of us ++ (u ∷ vs) ∷ groups kind_of ws
groups_round us vs ws u e h b =
    runs_apart goes_on us (u ∷ (vs ++ ws)) (all_apart goes_on us u (vs ++ ws) (λ x. ap not e))
    ∙ ap (λ gs. groups kind_of us ++ gs) (runs_cut goes_on (u ∷ vs) ws (group_run u vs ws h b))

-- ---- the nodes round a place

abbrev Under : (Kind → Type 0) → (List Holder → Type 0) → List Holder → Type 0
Under K P [] = ⊥
Under K P (h ∷ hs) = K h.head.kind × P hs

abbrev IsKind : Kind → Kind → Type 0
IsKind j k = k ≡ j

-- in a cell, a row, a body, a table
abbrev InCell : List Holder → Type 0
InCell hs = Under IsCellKind AreCellHolders hs

abbrev InRow : List Holder → Type 0
InRow hs = Under (IsKind kind.Tr) InCell hs

abbrev InRows : List Holder → Type 0
InRows hs = Under (IsKind kind.Tbody) InRow hs

abbrev InTable : List Holder → Type 0
InTable hs = Under (IsKind kind.Table) InRows hs

cell_holders : (hs : List Holder) → InTable hs → AreCellHolders hs
cell_holders [] h = absurd h
cell_holders (t ∷ []) h = absurd h.1
cell_holders (t ∷ b ∷ []) h = absurd h.1.1
cell_holders (t ∷ b ∷ r ∷ []) h = absurd h.1.1.1
cell_holders (t ∷ b ∷ r ∷ c ∷ hs) h = (h.0, h.1.0, h.1.1.0, h.1.1.1.0, h.1.1.1.1)

raised : (K : Kind → Type 0) (P : List Holder → Type 0) (h : Head) → K h.kind → Raises h P (Under K P)
raised K P h k = λ r hs e p. (subst (λ (g : Head). K g.kind) (sym e) k, p)

-- ---- cells

cell_of_kind : (header : Bool) → IsCellKind (cell_kind false header)
cell_of_kind true = inr refl
cell_of_kind false = inl refl

abbrev pub HasAny : {A : Type 0} → List A → Type 0
HasAny [] = ⊥
HasAny (x ∷ xs) = Unit {0}

some_onto : (x : Item) (ps : List (List Item)) → HasAny (onto x ps)
some_onto x [] = tt
some_onto x (p ∷ ps) = tt

some_by : (v : Bool) (x : Item) (ps qs : List (List Item)) → HasAny (if v then [] ∷ ps else onto x qs)
some_by true x ps qs = tt
some_by false x ps qs = some_onto x qs

pub some_parts : (by : Splits) (n : ℕ) (xs : List Item) → HasAny (cell_parts by n xs)
some_parts by zero [] = tt
some_parts by (suc n) [] = tt
some_parts by (suc n) (x ∷ xs) = some_onto x (cell_parts by n xs)
some_parts by zero (x ∷ xs) = some_by (splits_at by (x ∷ xs)) x (onto x (cell_parts by 1 xs)) (cell_parts by zero xs)

pub some_in : (header : Bool) (n : ℕ) (ps : List (List Item)) → HasAny ps → HasAny (cells_in header n ps)
some_in header n [] h = absurd h
some_in header n (p ∷ ps) h = tt

some_cells : (xs : List Item) → HasAny (cells_from false xs)
some_cells xs = some_in (header_by false (cell_signs xs)) 1 (cell_parts (split_by false (cell_signs xs)) 1 xs) (some_parts (split_by false (cell_signs xs)) 1 xs)

cells_fit : (I : Type 0) (t : I → ItemTree) (f : I → List Stretch) (cs : List Cell) → HasAny cs → Fits I t AreCellHolders f
    → Fits I t InCell (λ i. cells_by false cs (f i))
cells_fit I t f [] some h = absurd some
cells_fit I t f (c ∷ []) some h =
    let head : Head = with_attrs (cell_kind false c.header) c.attrs in
    fits_opened t AreCellHolders InCell (λ i. block (line_parts c.rest) ∷ f i) head c.opening (raised IsCellKind AreCellHolders head (cell_of_kind c.header))
    (fits_behind t AreCellHolders f (block (line_parts c.rest) ∷ []) h)
cells_fit I t f (c ∷ d ∷ cs) some h =
    fits_behind t InCell (λ i. cells_by false (d ∷ cs) (f i)) (cell_by false c []) (cells_fit I t f (d ∷ cs) tt h)

line_fits : (I : Type 0) (t : I → ItemTree) (read : Reading) (c : Row) (g : I → List Row) → Fits I t AreCellHolders (λ i. read (g i))
    → Fits I t InCell (λ i. cell_stretches read false (c ∷ g i))
unfolding cell_stretches
line_fits I t read c g h =
    fits_behind t InCell (λ i. cells_by false (cells_from false c.items) (gap c.ending ∷ read (g i))) (gap c.lead ∷ [])
    (cells_fit I t (λ i. gap c.ending ∷ read (g i)) (cells_from false c.items) (some_cells c.items)
    (fits_behind t AreCellHolders (λ i. read (g i)) (gap c.ending ∷ []) h))

-- ---- a row

made_fits : (I : Type 0) (t : I → ItemTree) (rs : List Row) (f : I → List Stretch) → Fits I t InCell f → Fits I t InRow (λ i. row_by rs (f i))
made_fits I t [] f h = fits_enclosed t InCell InRow f (plain kind.Tr) (raised (IsKind kind.Tr) InCell (plain kind.Tr) refl) h
made_fits I t (r ∷ rs) f h =
    let head : Head = with_attrs kind.Tr (row_attributes r.items) in
    fits_behind t InRow (λ i. opened_by head (delimiter (r ∷ rs)) (behind_delimiter (r ∷ rs) ++ f i)) (gap (delimiter_lead (r ∷ rs)) ∷ [])
    (fits_opened t InCell InRow (λ i. behind_delimiter (r ∷ rs) ++ f i) head (delimiter (r ∷ rs)) (raised (IsKind kind.Tr) InCell head refl)
    (fits_behind t InCell f (behind_delimiter (r ∷ rs)) h))

abbrev with_cells : RowOf Row → List (List Row) → RowOf Row
with_cells r cs = record { opening = r.opening; between = r.between; cells = r.cells ++ cs }

-- what the first group gives, and the other groups
row_more : (v : Bool) (a : Group) (gs : List Group) → row_parts kind_of v a gs ≡ with_cells (row_parts kind_of v a []) (map joined gs)
row_more true [] gs = refl
row_more false [] gs = refl
row_more true (u ∷ us) gs = refl
row_more false (u ∷ us) gs = refl

no_cells : RowOf Row
no_cells = record { opening = []; between = []; cells = [] }

-- the rows that open it, and the cells before and behind the group's
pub record CellRound (I : Type 0) (before : List Group) (y : I → Group) (behind : List Group) : Type 0 where
  pub first : RowOf Row
  pub others : List (List Row)
  pub back : List (List Row)
  pub is : (i : I) → row_of kind_of (before ++ y i ∷ behind) ≡ with_cells first (others ++ joined (y i) ∷ back)

cell_round : (I : Type 0) (before : List Group) (c : Row) (vs : I → List (List Row)) (behind : List Group) → is_row c.kind ≡ false
    → CellRound I before (λ i. (c ∷ []) ∷ vs i) behind
unfolding no_cells
cell_round I [] c vs behind e = record {
  first = no_cells;
  others = [];
  back = map joined behind;
  is = λ i. ap (λ (v : Bool). row_parts kind_of v ((c ∷ []) ∷ vs i) behind) e;
}
cell_round I (a ∷ before) c vs behind e = record {
  first = row_parts kind_of (is_row (group_kind kind_of a)) a [];
  others = map joined before;
  back = map joined behind;
  is = λ i. row_more (is_row (group_kind kind_of a)) a (before ++ ((c ∷ []) ∷ vs i) ∷ behind)
      ∙ ap (with_cells (row_parts kind_of (is_row (group_kind kind_of a)) a [])) (map-append joined before (((c ∷ []) ∷ vs i) ∷ behind));
}

row_is : (read : Reading) (r : RowOf Row) (cs ds : List (List Row)) (d : List Row) → row_stretches read (with_cells r (cs ++ d ∷ ds))
    ≡ row_by (r.opening ++ r.between) (flat_map (cell_stretches read false) r.cells
    ++ (flat_map (cell_stretches read false) cs ++ (cell_stretches read false d ++ flat_map (cell_stretches read false) ds)))
unfolding row_stretches
row_is read r cs ds d =
    let F : List (List Row) → List Stretch = flat_map (cell_stretches read false) in
    ap (row_by (r.opening ++ r.between)) (flat_map-append (cell_stretches read false) r.cells (cs ++ d ∷ ds)
    ∙ ap (λ ss. F r.cells ++ ss) (flat_map-append (cell_stretches read false) cs (d ∷ ds)))

row_fits : (I : Type 0) (t : I → ItemTree) (read : Reading) (c : Row) (g : I → List Row) (before behind : List Group) → is_row c.kind ≡ false
    → Fits I t AreCellHolders (λ i. read (g i)) → Fits I t InRow (λ i. row_stretches read (row_of kind_of (before ++ ((c ∷ []) ∷ units kind_of (g i)) ∷ behind)))
row_fits I t read c g before behind e h =
    let r = cell_round I before c (λ i. units kind_of (g i)) behind e in
    let F : List (List Row) → List Stretch = flat_map (cell_stretches read false) in
    let rs : List Row = r.first.opening ++ r.first.between in
    let own : I → List Stretch = λ i. cell_stretches read false (c ∷ g i) in
    let all : I → List Stretch = λ i. F r.first.cells ++ (F r.others ++ (own i ++ F r.back)) in
    fits_same t InRow (λ i. row_stretches read (row_of kind_of (before ++ ((c ∷ []) ∷ units kind_of (g i)) ∷ behind))) (λ i. row_by rs (all i))
    (λ i. ap (row_stretches read) (r.is i)
    ∙ row_is read r.first r.others r.back (joined ((c ∷ []) ∷ units kind_of (g i)))
    ∙ ap (λ (d : List Row). row_by rs (F r.first.cells ++ (F r.others ++ (cell_stretches read false (c ∷ d) ++ F r.back)))) (units_joined kind_of (g i)))
    (made_fits I t rs all
    (fits_behind t InCell (λ i. F r.others ++ (own i ++ F r.back)) (F r.first.cells)
    (fits_behind t InCell (λ i. own i ++ F r.back) (F r.others)
    (fits_before t InCell own (F r.back) (line_fits I t read c g h)))))

-- ---- all rows

rows_some : (read : Reading) (rs ss : List (RowOf Row)) (r : RowOf Row)
    → rows_stretches read (rs ++ r ∷ ss) ≡ enclosed (plain kind.Tbody) (flat_map (row_stretches read) (rs ++ r ∷ ss))
rows_some read [] ss r = refl
rows_some read (x ∷ rs) ss r = refl

rows_fit : (I : Type 0) (t : I → ItemTree) (read : Reading) (c : Row) (g : I → List Row) (xs ys : List Group) → is_row c.kind ≡ false
    → Fits I t AreCellHolders (λ i. read (g i)) → Fits I t InRows (λ i. rows_stretches read (rows_of kind_of (xs ++ ((c ∷ []) ∷ units kind_of (g i)) ∷ ys)))
rows_fit I t read c g xs ys e h =
    let y : I → Group = λ i. (c ∷ []) ∷ units kind_of (g i) in
    let r = row_round I xs y ys (λ i. ap not e) in
    let M : List (List Group) → List (RowOf Row) = map (row_of kind_of) in
    let S : List (RowOf Row) → List Stretch = flat_map (row_stretches read) in
    let own : I → List Stretch = λ i. row_stretches read (row_of kind_of (r.before ++ y i ∷ r.behind)) in
    let all : I → List Stretch = λ i. S (M r.front) ++ (own i ++ S (M r.back)) in
    fits_same t InRows (λ i. rows_stretches read (rows_of kind_of (xs ++ y i ∷ ys))) (λ i. enclosed (plain kind.Tbody) (all i))
    (λ i. ap (λ rs. rows_stretches read (M rs)) (r.is i)
    ∙ ap (rows_stretches read) (map-append (row_of kind_of) r.front ((r.before ++ y i ∷ r.behind) ∷ r.back))
    ∙ rows_some read (M r.front) (M r.back) (row_of kind_of (r.before ++ y i ∷ r.behind))
    ∙ ap (enclosed (plain kind.Tbody)) (flat_map-append (row_stretches read) (M r.front) (row_of kind_of (r.before ++ y i ∷ r.behind) ∷ M r.back)))
    (fits_enclosed t InRow InRows all (plain kind.Tbody) (raised (IsKind kind.Tbody) InRow (plain kind.Tbody) refl)
    (fits_behind t InRow (λ i. own i ++ S (M r.back)) (S (M r.front)) (fits_before t InRow own (S (M r.back)) (row_fits I t read c g r.before r.behind e h))))

-- ---- a table

abbrev parts_with : Row → List (List Row) → List (List Row) → List Group → TableOf Row
parts_with first plain captions rest = record {
  opening = with_stray kind_of (first ∷ []) plain;
  between = past_stray kind_of plain;
  captions = captions;
  rows = rows_of kind_of rest;
}

abbrev is_plain : List Row → Bool
is_plain u = not (begins_group kind_of u)

abbrev caption_first : Group → Bool
caption_first g = is_caption (group_kind kind_of g)

parts_round : (first : Row) (us vs ws : List (List Row)) (c : Row) → is_cell c.kind ≡ true → AllByRecursion IsPlain vs → FirstBegins ws
    → (all : List (List Row)) → all ≡ us ++ (c ∷ []) ∷ (vs ++ ws)
    → parts_by kind_of first (take (plain_len kind_of all) all) (groups kind_of (drop (plain_len kind_of all) all))
    ≡ parts_with first (take (prefix_len is_plain us) us)
    (map joined (take (prefix_len caption_first (groups kind_of (drop (prefix_len is_plain us) us))) (groups kind_of (drop (prefix_len is_plain us) us))))
    (drop (prefix_len caption_first (groups kind_of (drop (prefix_len is_plain us) us))) (groups kind_of (drop (prefix_len is_plain us) us))
    ++ ((c ∷ []) ∷ vs) ∷ groups kind_of ws)
parts_round first us vs ws c e h b all is =
    let n : ℕ = prefix_len is_plain us in
    let front : List (List Row) = take n us in
    let rest : List (List Row) = drop n us in
    let gs : List Group = groups kind_of rest in
    let g : Group = (c ∷ []) ∷ vs in
    let more : List Group = groups kind_of ws in
    let m : ℕ = prefix_len caption_first gs in
    let begins : begins_group kind_of (c ∷ []) ≡ true = cell_begins c.kind e in
    let C : List (List Row) → TableOf Row = λ zs. parts_by kind_of first (take (plain_len kind_of zs) zs) (groups kind_of (drop (plain_len kind_of zs) zs)) in
    ap C is
    ∙ ap (λ zs. parts_by kind_of first zs (groups kind_of (drop (plain_len kind_of (us ++ (c ∷ []) ∷ (vs ++ ws))) (us ++ (c ∷ []) ∷ (vs ++ ws)))))
    (first_taken is_plain us (c ∷ []) (vs ++ ws) (ap not begins))
    ∙ ap (λ zs. parts_by kind_of first front (groups kind_of zs)) (rest_dropped is_plain us (c ∷ []) (vs ++ ws) (ap not begins))
    ∙ ap (parts_by kind_of first front) (groups_round rest vs ws (c ∷ []) begins h b)
    ∙ ap (λ zs. parts_with first front (map joined zs) (drop (captions_len kind_of (gs ++ g ∷ more)) (gs ++ g ∷ more)))
    (first_taken caption_first gs g more (cell_no_caption c.kind e))
    ∙ ap (λ zs. parts_with first front (map joined (take m gs)) zs) (rest_dropped caption_first gs g more (cell_no_caption c.kind e))

made_table : (I : Type 0) (t : I → ItemTree) (read : Reading) (first last : Row) (plain captions : List (List Row)) (rest : I → List Group)
    → Fits I t InRows (λ i. rows_stretches read (rows_of kind_of (rest i))) → Fits I t InTable (λ i. table_by read (parts_with first plain captions (rest i)) last)
unfolding table_by
made_table I t read first last front captions rest h =
    let opening : List Row = with_stray kind_of (first ∷ []) front ++ past_stray kind_of front in
    let C : List Stretch = flat_map (cell_stretches read true) captions in
    let rows : I → List Stretch = λ i. rows_stretches read (rows_of kind_of (rest i)) in
    let inside : I → List Stretch = λ i. behind_delimiter opening ++ ((C ++ rows i) ++ (gap last.lead ∷ [])) in
    let fits = fits_behind t InRows (λ i. (C ++ rows i) ++ (gap last.lead ∷ [])) (behind_delimiter opening)
    (fits_before t InRows (λ i. C ++ rows i) (gap last.lead ∷ []) (fits_behind t InRows rows C h)) in
    let head : Head = with_attrs kind.Table (table_attributes (first_items opening)) in
    fits_behind t InTable (λ i. (tree_block (node_of head (delimiter opening) (inside i) last.items) ∷ []) ++ (gap last.ending ∷ [])) (gap (delimiter_lead opening) ∷ [])
    (fits_before t InTable (λ i. tree_block (node_of head (delimiter opening) (inside i) last.items) ∷ []) (gap last.ending ∷ [])
    (fits_node t InRows InTable inside head (delimiter opening) last.items (raised (IsKind kind.Table) InRows head refl) fits))

-- rows in a cell, whole units that begin no part, before those that begin another part
pub table_fits : (I : Type 0) (t : I → ItemTree) (read : Reading) (first c last : Row) (inside further : List Row) (g : I → List Row) → is_cell c.kind ≡ true
    → ((i : I) → units kind_of (inside ++ (c ∷ (g i ++ further))) ≡ units kind_of inside ++ (c ∷ []) ∷ (units kind_of (g i) ++ units kind_of further))
    → ((i : I) → BeginNoPart (g i)) → FirstBegins (units kind_of further) → Fits I t AreCellHolders (λ i. read (g i))
    → Fits I t AreCellHolders (λ i. table_by read (table_of kind_of first (inside ++ (c ∷ (g i ++ further)))) last)
table_fits I t read first c last inside further g e cut plain begins h =
    let us : List (List Row) = units kind_of inside in
    let ws : List (List Row) = units kind_of further in
    let rest : List (List Row) = drop (prefix_len is_plain us) us in
    let gs : List Group = groups kind_of rest in
    let m : ℕ = prefix_len caption_first gs in
    let front : List (List Row) = take (prefix_len is_plain us) us in
    let captions : List (List Row) = map joined (take m gs) in
    let own : I → List Group = λ i. drop m gs ++ ((c ∷ []) ∷ units kind_of (g i)) ∷ groups kind_of ws in
    let made = made_table I t read first last front captions own (rows_fit I t read c g (drop m gs) (groups kind_of ws) (cell_no_row c.kind e) h) in
    fits_same t AreCellHolders (λ i. table_by read (table_of kind_of first (inside ++ (c ∷ (g i ++ further)))) last) (λ i. table_by read (parts_with first front captions (own i)) last)
    (λ i. ap (λ p. table_by read p last)
    (parts_round first us (units kind_of (g i)) ws c e (plain i) begins (units kind_of (inside ++ (c ∷ (g i ++ further)))) (cut i)))
    (record { around = made.around; held = cell_holders made.around.holders made.held; is = made.is })
