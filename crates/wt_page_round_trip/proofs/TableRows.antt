-- The parts of a table, by the units of the rows in it: groups that begin with a caption, a row or cells.
use Rattle.std.proofs.Common.{◌≡◌, ℕ, suc, ◌+◌, ◌-◌, ◌<◌, ◌≤◌, Bool, true, false, List, [], ◌∷◌, ◌++◌, length, map, take, drop, get_or, refl, sym, ap, ◌∙◌, subst, arith, append_assoc}
use Rattle.std.specs.Prelude.{not, codes, if◌then◌else◌}
use Rattle.std.specs.List.{AllByRecursion}
use Rattle.std.proofs.lemmas.List.{take-append-drop}
use Rattle.wt_span.specs.Bytes.{begins}
use Rattle.wt_span.specs.Items.{Item}
use Rattle.wt_span.specs.Runs.{runs, IsRun, AreRuns}
use Rattle.wt_span.proofs.RunLaws.{runs_are}
use Rattle.wt_lex.proofs.Begins.{begins_get, begins_len}
use Rattle.wt_lines.specs.declared.kind.LineKind.{LineKind}
use Rattle.wt_lines.specs.declared.kind.LineKind.TheVariants as line
use Rattle.wt_tables.specs.Cells.{sign_len}
use Rattle.wt_tables.specs.Extents.{is_open, is_end}
use Rattle.wt_tables.specs.Parts.{joined, begins_part, begins_group, groups, group_kind, stray_len, with_stray, past_stray, RowOf, is_row, row_by, row_of, rows_of, is_caption, plain_len, captions_len}
use Rattle.wt_tables.specs.Views.{HasSign}
use Rattle.wt_page.specs.Rows.{Row, kind_of, signs}
use Rattle.wt_page_round_trip.proofs.PageLines.{all_left, all_right, all_both, all_dropped}
use Rattle.wt_page_round_trip.proofs.GoodRows.{IsSeen, IsGoodRow, AreGoodRows}
use Rattle.wt_page_round_trip.proofs.RowUnits.{Walk, UnitBy, IsUnit, walk_units}

-- ---- rows of several units

pub rows_apart : (us : List (List Row)) → AreGoodRows (joined us) → AllByRecursion AreGoodRows us
rows_apart [] g = tt
rows_apart (u ∷ us) g = (all_left IsGoodRow u (joined us) g, rows_apart us (all_right IsGoodRow u (joined us) g))

pub rows_together : (us : List (List Row)) → AllByRecursion AreGoodRows us → AreGoodRows (joined us)
rows_together [] g = tt
rows_together (u ∷ us) g = all_both IsGoodRow u (joined us) g.0 (rows_together us g.1)

pub joined_more : (us vs : List (List Row)) → joined (us ++ vs) ≡ joined us ++ joined vs
joined_more [] vs = refl
joined_more (u ∷ us) vs = ap (λ xs. u ++ xs) (joined_more us vs) ∙ sym (append_assoc u (joined us) (joined vs))

-- ---- groups

-- a row that begins a part of a table, with the units behind it
pub record IsGroup (n : ℕ) (g : List (List Row)) : Type 0 where
  pub first : Row
  pub rest : List (List Row)
  pub are : g ≡ (first ∷ []) ∷ rest
  pub part : begins_part first.kind ≡ true
  pub good : IsGoodRow first
  pub units : AllByRecursion (IsUnit n) rest
  pub rows : AllByRecursion AreGoodRows rest

-- nothing, or a unit that begins a part
abbrev BeginsPart : List (List Row) → Type 0
BeginsPart [] = Unit {0}
BeginsPart (u ∷ us) = begins_group kind_of u ≡ true

abbrev in_group : List Row → List Row → Bool
in_group u v = not (begins_group kind_of v)

not_false : (b : Bool) → not b ≡ false → b ≡ true
not_false true e = refl
not_false false e = absurd cc

next_begins : (g others : List (List Row)) → IsRun in_group g others → BeginsPart others
next_begins [] others h = absurd h
next_begins (u ∷ []) [] h = tt
next_begins (u ∷ []) (v ∷ others) h = not_false (begins_group kind_of v) h
next_begins (u ∷ v ∷ g) others h = next_begins (v ∷ g) others h.1

part_alone : (k : LineKind) → begins_part k ≡ true → (is_open k ≡ false) × (is_end k ≡ false)
part_alone line.Caption e = (refl, refl)
part_alone line.Row e = (refl, refl)
part_alone line.Cell e = (refl, refl)
part_alone line.Header e = (refl, refl)
part_alone k e = absurd cc

alone : (n : ℕ) (r : Row) (ms : List Row) → begins_part r.kind ≡ true → IsUnit n (r ∷ ms) → ms ≡ []
alone n r ms e u =
    let a : (is_open r.kind ≡ false) × (is_end r.kind ≡ false) = part_alone r.kind e in
    subst (λ x. UnitBy false x n ms) a.1 (subst (λ x. UnitBy x (is_end r.kind) n ms) a.0 u)

one_group : (n : ℕ) (u : List Row) (us : List (List Row)) → begins_group kind_of u ≡ true → AllByRecursion (IsUnit n) (u ∷ us)
    → AllByRecursion AreGoodRows (u ∷ us) → IsGroup n (u ∷ us)
one_group n [] us e a g = absurd cc
one_group n (r ∷ ms) us e a g =
    let z : ms ≡ [] = alone n r ms e a.0 in
    record {
      first = r;
      rest = us;
      are = ap (λ (xs : List Row). (r ∷ xs) ∷ us) z;
      part = e;
      good = g.0.0;
      units = a.1;
      rows = g.1;
    }

runs_group : (n : ℕ) (gs : List (List (List Row))) (us : List (List Row)) → AreRuns in_group gs us → BeginsPart us → AllByRecursion (IsUnit n) us
    → AllByRecursion AreGoodRows us → AllByRecursion (IsGroup n) gs
runs_group n [] us h b a g = tt
runs_group n ([] ∷ gs) us h b a g = absurd h.2
runs_group n ((u ∷ vs) ∷ gs) us (others, e, run, rest) b a g =
    let units : AllByRecursion (IsUnit n) ((u ∷ vs) ++ others) = subst (λ (xs : List (List Row)). AllByRecursion (IsUnit n) xs) e a in
    let good : AllByRecursion AreGoodRows ((u ∷ vs) ++ others) = subst (λ (xs : List (List Row)). AllByRecursion AreGoodRows xs) e g in (
      one_group n u vs (subst BeginsPart e b) (all_left (IsUnit n) (u ∷ vs) others units) (all_left AreGoodRows (u ∷ vs) others good),
      runs_group n gs others rest (next_begins (u ∷ vs) others run) (all_right (IsUnit n) (u ∷ vs) others units)
          (all_right AreGoodRows (u ∷ vs) others good),
    )

past_plain : (us : List (List Row)) → BeginsPart (drop (plain_len kind_of us) us)
past_plain [] = tt
past_plain (u ∷ us) = by_test (begins_group kind_of u) refl (past_plain us)
  where
    by_test : (t : Bool) → begins_group kind_of u ≡ t → BeginsPart (drop (plain_len kind_of us) us)
        → BeginsPart (drop (if not t then 1 + plain_len kind_of us else 0) (u ∷ us))
    by_test true e more = e
    by_test false e more =
        let z : 1 + plain_len kind_of us ≡ suc (plain_len kind_of us) = omega arith in
        subst (λ n. BeginsPart (drop n (u ∷ us))) (sym z) more

pub table_groups : (n : ℕ) (us : List (List Row)) → AllByRecursion (IsUnit n) us → AllByRecursion AreGoodRows us
    → AllByRecursion (IsGroup n) (groups kind_of (drop (plain_len kind_of us) us))
table_groups n us a g =
    let m : ℕ = plain_len kind_of us in
    runs_group n (groups kind_of (drop m us)) (drop m us) (runs_are in_group (drop m us)) (past_plain us) (all_dropped (IsUnit n) m us a)
    (all_dropped AreGoodRows m us g)

-- ---- cells with what follows in them

-- a row of cells, or a caption, with the rows that belong to the last of them
pub record IsCellRow (n : ℕ) (caption : Bool) (r : Row) (rest : List Row) : Type 0 where
  pub good : IsGoodRow r
  pub sign : HasSign (sign_len caption) (signs r.items)
  pub rows : AreGoodRows rest
  pub walk : Walk n 0 rest

abbrev pub AreCellRows : ℕ → Bool → List Row → Type 0
AreCellRows n caption [] = Unit {0}
AreCellRows n caption (r ∷ rest) = IsCellRow n caption r rest

word_sign : (w : List ℕ) (ss : List ℕ) → 0 < length w → get_or w (length w - 1) 0 < 128 → begins w ss ≡ true → HasSign (length w) ss
word_sign w ss some low e =
    let le : length w ≤ length ss = begins_len w ss e in
    let at : get_or ss (length w - 1) 0 ≡ get_or w (length w - 1) 0 = begins_get w ss e (length w - 1) (omega (arith, some)) in
    record { some = some; within = le; low = omega (arith, at, low) }

front_word : (ss : List ℕ) → begins (codes "|+") ss ≡ true → HasSign 1 ss
front_word ss e =
    let le : 2 ≤ length ss = begins_len (codes "|+") ss e in
    let at : get_or ss 0 0 ≡ 124 = begins_get (codes "|+") ss e 0 (omega arith) in
    record { some = omega arith; within = omega (arith, le); low = omega (arith, at) }

cells_seen : (k : LineKind) (xs : List Item) → IsSeen k xs → is_row k ≡ false → begins_part k ≡ true → HasSign 1 (signs xs)
cells_seen line.Caption xs s e f = front_word (signs xs) s
cells_seen line.Row xs s e f = absurd cc
cells_seen line.Cell xs s e f = word_sign (codes "|") (signs xs) (omega arith) (omega arith) s
cells_seen line.Header xs s e f = word_sign (codes "!") (signs xs) (omega arith) (omega arith) s
cells_seen k xs s e f = absurd cc

caption_seen : (k : LineKind) (xs : List Item) → IsSeen k xs → is_caption k ≡ true → HasSign 2 (signs xs)
caption_seen line.Caption xs s e = word_sign (codes "|+") (signs xs) (omega arith) (omega arith) s
caption_seen k xs s e = absurd cc

cell_row : (n : ℕ) (caption : Bool) (r : Row) (us : List (List Row)) → IsGoodRow r → HasSign (sign_len caption) (signs r.items)
    → AllByRecursion (IsUnit n) us → AllByRecursion AreGoodRows us → IsCellRow n caption r (joined us)
cell_row n caption r us g s a rows = record { good = g; sign = s; rows = rows_together us rows; walk = walk_units n us a }

group_cells : (n : ℕ) (g : List (List Row)) → IsGroup n g → is_row (group_kind kind_of g) ≡ false → AreCellRows n false (joined g)
group_cells n g h e =
    let f : is_row h.first.kind ≡ false = subst (λ (x : List (List Row)). is_row (group_kind kind_of x) ≡ false) h.are e in
    subst (λ (x : List (List Row)). AreCellRows n false (joined x)) (sym h.are)
    (cell_row n false h.first h.rest h.good (cells_seen h.first.kind h.first.items h.good.seen f h.part) h.units h.rows)

group_caption : (n : ℕ) (g : List (List Row)) → IsGroup n g → is_caption (group_kind kind_of g) ≡ true → AreCellRows n true (joined g)
group_caption n g h e =
    let f : is_caption h.first.kind ≡ true = subst (λ (x : List (List Row)). is_caption (group_kind kind_of x) ≡ true) h.are e in
    subst (λ (x : List (List Row)). AreCellRows n true (joined x)) (sym h.are)
    (cell_row n true h.first h.rest h.good (caption_seen h.first.kind h.first.items h.good.seen f) h.units h.rows)

-- ---- captions

pub captions_good : (n : ℕ) (gs : List (List (List Row))) → AllByRecursion (IsGroup n) gs
    → AllByRecursion (AreCellRows n true) (map joined (take (captions_len kind_of gs) gs))
captions_good n [] a = tt
captions_good n (g ∷ gs) a = by_test (is_caption (group_kind kind_of g)) refl (captions_good n gs a.1)
  where
    by_test : (t : Bool) → is_caption (group_kind kind_of g) ≡ t → AllByRecursion (AreCellRows n true) (map joined (take (captions_len kind_of gs) gs))
        → AllByRecursion (AreCellRows n true) (map joined (take (if t then 1 + captions_len kind_of gs else 0) (g ∷ gs)))
    by_test true e more =
        let z : 1 + captions_len kind_of gs ≡ suc (captions_len kind_of gs) = omega arith in
        subst (λ m. AllByRecursion (AreCellRows n true) (map joined (take m (g ∷ gs)))) (sym z) (group_caption n g a.0 e, more)
    by_test false e more = tt

-- ---- rows

-- the rows that open a row of a table, if any do
abbrev pub OpensRow : List Row → Type 0
OpensRow [] = Unit {0}
OpensRow (r ∷ rs) = (begins (codes "|-") (signs r.items) ≡ true) × AreGoodRows (r ∷ rs)

pub record IsTableRow (n : ℕ) (x : RowOf Row) : Type 0 where
  pub opens : OpensRow (x.opening ++ x.between)
  pub cells : AllByRecursion (AreCellRows n false) x.cells

row_seen : (k : LineKind) (xs : List Item) → IsSeen k xs → is_row k ≡ true → begins (codes "|-") (signs xs) ≡ true
row_seen line.Row xs s e = s
row_seen k xs s e = absurd cc

abbrev in_row : List (List Row) → List (List Row) → Bool
in_row g h = not (is_row (group_kind kind_of h))

not_true : (b : Bool) → not b ≡ true → b ≡ false
not_true true e = absurd cc
not_true false e = refl

later_cells : (n : ℕ) (g : List (List Row)) (gs others : List (List (List Row))) → IsRun in_row (g ∷ gs) others → AllByRecursion (IsGroup n) gs
    → AllByRecursion (AreCellRows n false) (map joined gs)
later_cells n g [] others h a = tt
later_cells n g (x ∷ gs) others h a = (group_cells n x a.0 (not_true (is_row (group_kind kind_of x)) h.0), later_cells n x gs others h.1 a.1)

pub stray_rows : (u : List Row) (us : List (List Row)) → with_stray kind_of u us ++ past_stray kind_of us ≡ u ++ joined us
stray_rows u us =
    let m : ℕ = stray_len kind_of us in
    append_assoc u (joined (take m us)) (joined (drop m us))
    ∙ ap (λ xs. u ++ xs) (sym (joined_more (take m us) (drop m us)) ∙ ap joined (take-append-drop m us))

one_row : (n : ℕ) (g : List (List Row)) (gs : List (List (List Row))) (t : Bool) → is_row (group_kind kind_of g) ≡ t → IsGroup n g
    → AllByRecursion (AreCellRows n false) (map joined gs) → IsTableRow n (row_by kind_of t g gs)
one_row n g gs true e h cells =
    let f : is_row h.first.kind ≡ true = subst (λ (x : List (List Row)). is_row (group_kind kind_of x) ≡ true) h.are e in
    subst (λ (x : List (List Row)). IsTableRow n (row_by kind_of true x gs)) (sym h.are) (record {
      opens = subst OpensRow (sym (stray_rows (h.first ∷ []) h.rest))
          (row_seen h.first.kind h.first.items h.good.seen f, (h.good, rows_together h.rest h.rows));
      cells = cells;
    })
one_row n g gs false e h cells =
    let here : AreCellRows n false (joined g) = group_cells n g h e in
    subst (λ (x : List (List Row)). IsTableRow n (row_by kind_of false x gs)) (sym h.are) (record {
      opens = tt;
      cells = (subst (λ (x : List (List Row)). AreCellRows n false (joined x)) h.are here, cells);
    })

row_runs : (n : ℕ) (rs : List (List (List (List Row)))) (gs : List (List (List Row))) → AreRuns in_row rs gs → AllByRecursion (IsGroup n) gs
    → AllByRecursion (IsTableRow n) (map (row_of kind_of) rs)
row_runs n [] gs h a = tt
row_runs n ([] ∷ rs) gs h a = absurd h.2
row_runs n ((g ∷ more) ∷ rs) gs (others, e, run, rest) a =
    let all : AllByRecursion (IsGroup n) ((g ∷ more) ++ others) = subst (λ (xs : List (List (List Row))). AllByRecursion (IsGroup n) xs) e a in
    let here : AllByRecursion (IsGroup n) (g ∷ more) = all_left (IsGroup n) (g ∷ more) others all in (
      one_row n g more (is_row (group_kind kind_of g)) refl here.0 (later_cells n g more others run here.1),
      row_runs n rs others rest (all_right (IsGroup n) (g ∷ more) others all),
    )

pub rows_good : (n : ℕ) (gs : List (List (List Row))) → AllByRecursion (IsGroup n) gs → AllByRecursion (IsTableRow n) (rows_of kind_of gs)
rows_good n gs a = row_runs n (runs in_row gs) gs (runs_are in_row gs) a
