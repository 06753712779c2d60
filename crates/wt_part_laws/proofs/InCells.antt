-- A paragraph in cells of tables, one in the other: whatever its text is, it is at the same place in the same nodes.
use Rattle.std.proofs.Common.{◌≡◌, ◌≤◌, ◌-◌, ℕ, zero, suc, true, false, List, [], ◌∷◌, ◌++◌, length, map, refl, sym, ap, ◌∙◌, subst, append-nil, append_assoc, arith, inl, inr}
use Rattle.std.specs.List.{AllByRecursion}
use Rattle.wt_span.specs.Items.{Item}
use Rattle.wt_span.specs.Runs.{IsRun}
use Rattle.wt_lines.specs.declared.kind.LineKind.{LineKind}
use Rattle.wt_lines.specs.declared.kind.LineKind.TheVariants as line
use Rattle.wt_lines.specs.declared.kind.TheConstants.{MOST_TABLES}
use Rattle.wt_tables.specs.Extents.{behind, inner_len}
use Rattle.wt_tables.specs.Parts.{joined, taken_len, put_first, units_from, units, unit_kind, begins_part, begins_group, table_of}
use Rattle.wt_inline.specs.ItemTree.{ItemTree}
use Rattle.wt_page.specs.Rows.{Row, kind_of, last_ending}
use Rattle.wt_page.specs.Stretches.{Stretch, gap, tree_block}
use Rattle.wt_page.specs.Tables.{Reading, table_by, gaps}
use Rattle.wt_page.specs.Texts.{para}
use Rattle.wt_page.specs.Body.{one_block, same_block, blocks_by, within, blocks}
use Rattle.wt_part_laws.specs.Blocks.{table, paragraph, AllAre, BeginOtherwise, AreBlocks}
use Rattle.wt_part_laws.specs.Units.{IsUnit, AreUnits, Level}
use Rattle.wt_part_laws.specs.Rounds.{AreCellHolders, Around, TableRound, in_cell, in_cells, is_cell, BeginsPart, AreContent, IsTableRound, EndOtherwise, AreTexts, ParagraphStands}
use Rattle.wt_part_laws.proofs.Falling.{IsOther, sort, Falls, IsPart, part_is_unit}
use Rattle.wt_part_laws.proofs.UnitCuts.{first_unit, level_put, level_rest, level_open, level_end, level_other, level_ends, level_units}
use Rattle.wt_part_laws.proofs.BlockCases.{read_by_cases}
use Rattle.wt_part_laws.proofs.Apart.{Apart, all_apart, units_join, units_beside, blocks_beside, text_behind, text_before}
use Rattle.wt_part_laws.proofs.Fitting.{Fits, fits_same, fits_behind, fits_before}
use Rattle.wt_part_laws.proofs.TableCells.{FirstBegins, table_fits}

-- ---- level rows

pub level_join : (d : ℕ) (rs ss : List Row) → Level d rs → Level 0 ss → Level d (rs ++ ss)
level_join zero [] ss h g = g
level_join (suc d) [] ss h g = absurd h
level_join d (r ∷ rs) ss h g = level_put d r (rs ++ ss) (level_ends d r rs h) (level_join (behind d r.kind) rs ss (level_rest d r rs h) g)

pub one_level : (r : Row) → IsOther r.kind → Level 0 (r ∷ [])
one_level r o = level_put 0 r [] (λ e. absurd (o.no_end e)) (subst (λ (n : ℕ). Level n []) (sym (o.stays 0)) tt)

-- a row that ends a table behind level rows ends the one that is open there
falls_ended : (d : ℕ) (r : Row) (rs ss : List Row) → r.kind ≡ line.TableEnd → Level d (r ∷ rs) → ((e : ℕ) → Level e rs → Falls (suc e) ss)
    → Falls (behind (suc d) r.kind) ss
falls_ended zero r rs ss z h k = absurd (omega (arith, level_ends 0 r rs h z))
falls_ended (suc d) r rs ss z h k =
    let n : suc (suc d) - 1 ≡ suc d = omega arith in
    subst (λ (m : ℕ). Falls m ss) (sym (ap (behind (suc (suc d))) z ∙ n)) (k d (level_end d r rs z h))

pub level_falls : (d : ℕ) (rs : List Row) (last : Row) → last.kind ≡ line.TableEnd → Level d rs → Falls (suc d) (rs ++ last ∷ [])
level_falls zero [] last e h = subst (λ (n : ℕ). Falls n []) (sym (ap (behind 1) e)) tt
level_falls (suc d) [] last e h = absurd h
level_falls d (r ∷ rs) last e h =
    elim (sort r.kind) [
      | inl o ↦ subst (λ (n : ℕ). Falls n (rs ++ last ∷ [])) (sym (ap (behind (suc d)) o)) (level_falls (suc d) rs last e (level_open d r rs o h))
      | inr (inl z) ↦ falls_ended d r rs (rs ++ last ∷ []) z h (λ m g. level_falls m rs last e g)
      | inr (inr o) ↦ subst (λ (n : ℕ). Falls n (rs ++ last ∷ [])) (sym (o.stays (suc d))) (level_falls d rs last e (level_other d r rs o h))
    ]

-- and they are level where one table more is open
level_ended : (d : ℕ) (r : Row) (rs ss : List Row) → r.kind ≡ line.TableEnd → Level d (r ∷ rs) → ((e : ℕ) → Level e rs → Level (suc e) ss) → Level (suc d) (r ∷ ss)
level_ended zero r rs ss z h k = absurd (omega (arith, level_ends 0 r rs h z))
level_ended (suc d) r rs ss z h k =
    let n : suc (suc d) - 1 ≡ suc d = omega arith in
    level_put (suc (suc d)) r ss (λ e. omega arith) (subst (λ (m : ℕ). Level m ss) (sym (ap (behind (suc (suc d))) z ∙ n)) (k d (level_end d r rs z h)))

pub level_raised : (d : ℕ) (rs : List Row) (last : Row) → last.kind ≡ line.TableEnd → Level d rs → Level (suc d) (rs ++ last ∷ [])
level_raised zero [] last e h = level_put 1 last [] (λ z. omega arith) (subst (λ (n : ℕ). Level n []) (sym (ap (behind 1) e)) tt)
level_raised (suc d) [] last e h = absurd h
level_raised d (r ∷ rs) last e h =
    elim (sort r.kind) [
      | inl o ↦ level_put (suc d) r (rs ++ last ∷ []) (λ z. omega arith)
          (subst (λ (n : ℕ). Level n (rs ++ last ∷ [])) (sym (ap (behind (suc d)) o)) (level_raised (suc d) rs last e (level_open d r rs o h)))
      | inr (inl z) ↦ level_ended d r rs (rs ++ last ∷ []) z h (λ m g. level_raised m rs last e g)
      | inr (inr o) ↦ level_put (suc d) r (rs ++ last ∷ []) (λ z. omega arith)
          (subst (λ (n : ℕ). Level n (rs ++ last ∷ [])) (sym (o.stays (suc d))) (level_raised d rs last e (level_other d r rs o h)))
    ]

-- ---- units

pub rows_units : (rs : List Row) → Level 0 rs → AreUnits (units kind_of rs) rs
rows_units rs h = level_units rs h

pub part_other : (k : LineKind) → begins_part k ≡ true → IsOther k
part_other k e =
    elim (sort k) [
      | inl o ↦ let f : begins_part k ≡ false = ap begins_part o in absurd (cc)
      | inr (inl z) ↦ let f : begins_part k ≡ false = ap begins_part z in absurd (cc)
      | inr (inr o) ↦ o
    ]

text_other : (r : Row) → r.kind ≡ line.Text → IsOther r.kind
text_other r e =
    elim (sort r.kind) [
      | inl o ↦ let f : line.TableOpen ≡ line.Text = sym o ∙ e in absurd (cc)
      | inr (inl z) ↦ let f : line.TableEnd ≡ line.Text = sym z ∙ e in absurd (cc)
      | inr (inr o) ↦ o
    ]

pub alone_first : (r : Row) (rs : List Row) → IsOther r.kind → units kind_of (r ∷ rs) ≡ (r ∷ []) ∷ units kind_of rs
alone_first r rs o = first_unit (r ∷ []) rs (inr (o, refl))

first_begins : (rs : List Row) → BeginsPart rs → FirstBegins (units kind_of rs)
first_begins [] h = tt
first_begins (r ∷ rs) h = subst FirstBegins (sym (alone_first r rs (part_other r.kind h))) h

-- ---- rows that begin no part

plain_join : (us vs : List (List Row)) → AllByRecursion (λ u. begins_group kind_of u ≡ false) us → AllByRecursion (λ u. begins_group kind_of u ≡ false) vs
    → AllByRecursion (λ u. begins_group kind_of u ≡ false) (us ++ vs)
plain_join [] vs h g = g
plain_join (u ∷ us) vs (h, hs) g = (h, plain_join us vs hs g)

pub content_join : (rs ss : List Row) → AreContent rs → AreContent ss → AreContent (rs ++ ss)
content_join rs ss h g = record {
  level = level_join 0 rs ss h.level g.level;
  plain = subst (λ us. AllByRecursion (λ u. begins_group kind_of u ≡ false) us)
      (sym (units_beside rs ss (rows_units rs h.level) (rows_units ss g.level))) (plain_join (units kind_of rs) (units kind_of ss) h.plain g.plain);
}

text_plain : (r : Row) → r.kind ≡ line.Text → begins_part r.kind ≡ false
text_plain r e = ap begins_part e

pub texts_content : (rs : List Row) → AllAre line.Text rs → AreContent rs
texts_content [] h = record { level = tt; plain = tt }
texts_content (r ∷ rs) (h, hs) =
    let o : IsOther r.kind = text_other r h in
    let more : AreContent rs = texts_content rs hs in
    record {
      level = level_put 0 r rs (λ e. absurd (o.no_end e)) (subst (λ (n : ℕ). Level n rs) (sym (o.stays 0)) more.level);
      plain = subst (λ us. AllByRecursion (λ u. begins_group kind_of u ≡ false) us) (sym (alone_first r rs o)) (text_plain r h, more.plain);
    }

-- ---- a table

table_part : (t : TableRound) (rs : List Row) → t.first.kind ≡ line.TableOpen → t.last.kind ≡ line.TableEnd → Level 0 rs → IsPart (t.first ∷ (rs ++ t.last ∷ []))
table_part t rs o e h = inl (o, level_falls 0 rs t.last e h)

table_blocks : (read : Reading) (t : TableRound) (rs : List Row) → t.first.kind ≡ line.TableOpen → IsPart (t.first ∷ (rs ++ t.last ∷ []))
    → blocks_by read (t.first ∷ (rs ++ t.last ∷ [])) ≡ table_by read (table_of kind_of t.first rs) t.last
table_blocks read t rs o h =
    let all : List Row = t.first ∷ (rs ++ t.last ∷ []) in
    let is : AreBlocks (table t.first rs t.last ∷ []) all = ([], sym (append-nil all), (o, part_is_unit all h), refl) in
    read_by_cases read (table t.first rs t.last ∷ []) all is ∙ append-nil (table_by read (table_of kind_of t.first rs) t.last)

-- no row joins a table
no_table_behind : (k : LineKind) → one_block k line.TableOpen ≡ false
no_table_behind line.Blank = refl
no_table_behind line.TableOpen = refl
no_table_behind line.TableEnd = refl
no_table_behind line.Caption = refl
no_table_behind line.Row = refl
no_table_behind line.Cell = refl
no_table_behind line.Header = refl
no_table_behind line.Heading = refl
no_table_behind line.Rule = refl
no_table_behind line.List = refl
no_table_behind line.Pre = refl
no_table_behind line.Text = refl

table_apart : (u : List Row) (vs : List (List Row)) → unit_kind kind_of u ≡ line.TableOpen → IsRun same_block (u ∷ []) vs
table_apart u [] e = tt
table_apart u (v ∷ vs) e = ap (λ k. one_block k (unit_kind kind_of v)) e

pub round_blocks : (read : Reading) (before own after : List Row) → AreContent before → AreContent after → IsPart own → unit_kind kind_of own ≡ line.TableOpen
    → blocks_by read (before ++ (own ++ after)) ≡ blocks_by read before ++ (blocks_by read own ++ blocks_by read after)
round_blocks read before own after h g p e =
    let one : units kind_of own ≡ own ∷ [] = ap (units kind_of) (sym (append-nil own)) ∙ first_unit own [] p in
    let behind_own : units kind_of (own ++ after) ≡ own ∷ units kind_of after = first_unit own after p in
    let both : units kind_of (own ++ after) ≡ units kind_of own ++ units kind_of after = behind_own ∙ ap (λ us. us ++ units kind_of after) (sym one) in
    let own_units : AreUnits (units kind_of own) own = subst (λ us. AreUnits us own) (sym one) (record { join = append-nil own; each = (part_is_unit own p, tt) }) in
    let rest_units : AreUnits (units kind_of (own ++ after)) (own ++ after) =
    subst (λ us. AreUnits us (own ++ after)) (sym both)
    (units_join (units kind_of own) (units kind_of after) own after own_units (rows_units after g.level)) in
    blocks_beside read before (own ++ after) (units_beside before (own ++ after) (rows_units before h.level) rest_units)
    (subst (λ us. Apart same_block (units kind_of before) us) (sym behind_own)
    (all_apart same_block (units kind_of before) own (units kind_of after) (λ u. ap (one_block (unit_kind kind_of u)) e ∙ no_table_behind (unit_kind kind_of u))))
    ∙ ap (λ ss. blocks_by read before ++ ss)
    (blocks_beside read own after both (subst (λ us. Apart same_block us (units kind_of after)) (sym one) (table_apart own (units kind_of after) e)))

-- ---- rows in a cell

abbrev inner_rows : TableRound → List Row → List Row
inner_rows t rs = t.inside ++ (t.cell ∷ (rs ++ t.further))

cell_other : (k : LineKind) → is_cell k ≡ true → IsOther k
cell_other k e =
    elim (sort k) [
      | inl o ↦ let f : is_cell k ≡ false = ap is_cell o in absurd (cc)
      | inr (inl z) ↦ let f : is_cell k ≡ false = ap is_cell z in absurd (cc)
      | inr (inr o) ↦ o
    ]

inner_level : (t : TableRound) (rs : List Row) → IsTableRound t → Level 0 rs → Level 0 (inner_rows t rs)
inner_level t rs h g =
    let o : IsOther t.cell.kind = cell_other t.cell.kind h.of_cells in
    level_join 0 t.inside (t.cell ∷ (rs ++ t.further)) h.inside
    (level_join 0 (t.cell ∷ []) (rs ++ t.further) (one_level t.cell o) (level_join 0 rs t.further g h.further))

inner_units : (t : TableRound) (rs : List Row) → IsTableRound t → Level 0 rs
    → units kind_of (inner_rows t rs) ≡ units kind_of t.inside ++ (t.cell ∷ []) ∷ (units kind_of rs ++ units kind_of t.further)
inner_units t rs h g =
    let o : IsOther t.cell.kind = cell_other t.cell.kind h.of_cells in
    let rest : List Row = t.cell ∷ (rs ++ t.further) in
    let rest_level : Level 0 rest = level_join 0 (t.cell ∷ []) (rs ++ t.further) (one_level t.cell o) (level_join 0 rs t.further g h.further) in
    units_beside t.inside rest (rows_units t.inside h.inside) (rows_units rest rest_level)
    ∙ ap (λ us. units kind_of t.inside ++ us) (alone_first t.cell (rs ++ t.further) o
    ∙ ap (λ us. (t.cell ∷ []) ∷ us) (units_beside rs t.further (rows_units rs g) (rows_units t.further h.further)))

table_content : (t : TableRound) (rs : List Row) → IsTableRound t → Level 0 rs → AreContent (t.first ∷ (inner_rows t rs ++ t.last ∷ []))
table_content t rs h g =
    let all : List Row = t.first ∷ (inner_rows t rs ++ t.last ∷ []) in
    let p : IsPart all = table_part t (inner_rows t rs) h.opens h.ends (inner_level t rs h g) in
    let one : units kind_of all ≡ all ∷ [] = ap (units kind_of) (sym (append-nil all)) ∙ first_unit all [] p in
    let no : begins_part t.first.kind ≡ false = ap begins_part h.opens in
    record {
      level = level_put 0 t.first (inner_rows t rs ++ t.last ∷ []) (λ e. let z : line.TableOpen ≡ line.TableEnd = sym h.opens ∙ e in absurd (cc))
          (subst (λ (n : ℕ). Level n (inner_rows t rs ++ t.last ∷ [])) (sym (ap (behind 0) h.opens))
          (level_raised 0 (inner_rows t rs) t.last h.ends (inner_level t rs h g)));
      plain = subst (λ us. AllByRecursion (λ u. begins_group kind_of u ≡ false) us) (sym one) (no, tt);
    }

cell_content : (t : TableRound) (rs : List Row) → IsTableRound t → AreContent rs → AreContent (in_cell t rs)
cell_content t rs h g =
    content_join t.before ((t.first ∷ (inner_rows t rs ++ t.last ∷ [])) ++ t.behind) h.before
    (content_join (t.first ∷ (inner_rows t rs ++ t.last ∷ [])) t.behind (table_content t rs h g.level) h.behind)

cells_content : (ts : List TableRound) (rs : List Row) → AllByRecursion IsTableRound ts → AreContent rs → AreContent (in_cells ts rs)
cells_content [] rs h g = g
cells_content (t ∷ ts) rs (h, hs) g = cell_content t (in_cells ts rs) h (cells_content ts rs hs g)

-- what a cell makes, whatever rows are in it
cell_fits : (I : Type 0) (p : I → ItemTree) (read : Reading) (t : TableRound) (g : I → List Row) → IsTableRound t → ((i : I) → AreContent (g i))
    → Fits I p AreCellHolders (λ i. read (g i)) → Fits I p AreCellHolders (λ i. blocks_by read (in_cell t (g i)))
cell_fits I p read t g h c f =
    let own : I → List Row = λ i. t.first ∷ (inner_rows t (g i) ++ t.last ∷ []) in
    let made : I → List Stretch = λ i. table_by read (table_of kind_of t.first (inner_rows t (g i))) t.last in
    fits_same p AreCellHolders (λ i. blocks_by read (in_cell t (g i))) (λ i. blocks_by read t.before ++ (made i ++ blocks_by read t.behind))
    (λ i.
    let part : IsPart (own i) = table_part t (inner_rows t (g i)) h.opens h.ends (inner_level t (g i) h (c i).level) in
    round_blocks read t.before (own i) t.behind h.before h.behind part h.opens
    ∙ ap (λ ss. blocks_by read t.before ++ (ss ++ blocks_by read t.behind)) (table_blocks read t (inner_rows t (g i)) h.opens part))
    (fits_behind p AreCellHolders (λ i. made i ++ blocks_by read t.behind) (blocks_by read t.before)
    (fits_before p AreCellHolders made (blocks_by read t.behind)
    (table_fits I p read t.first t.cell t.last t.inside t.further g h.of_cells (λ i. inner_units t (g i) h (c i).level) (λ i. (c i).plain)
    (first_begins t.further h.begins) f)))

-- and in cells one in the other
pub cells_fit_within : (I : Type 0) (p : I → ItemTree) (g : I → List Row) → ((i : I) → AreContent (g i))
    → ((read : Reading) → Fits I p AreCellHolders (λ i. blocks_by read (g i))) → (n : ℕ) (ts : List TableRound) → length ts ≤ n → AllByRecursion IsTableRound ts
    → Fits I p AreCellHolders (λ i. within n (in_cells ts (g i)))
cells_fit_within I p g c f zero [] le h = f gaps
cells_fit_within I p g c f (suc n) [] le h = f (within n)
cells_fit_within I p g c f zero (t ∷ ts) le h = absurd (omega (arith, le))
cells_fit_within I p g c f (suc n) (t ∷ ts) le (h, hs) =
    cell_fits I p (within n) t (λ i. in_cells ts (g i)) h (λ i. cells_content ts (g i) hs (c i))
    (cells_fit_within I p g c f n ts (omega (arith, le)) hs)

-- ---- a paragraph

abbrev IsText : List Item → List Item → Type 0
IsText lead ending = (rs : List Row) × AreTexts lead ending rs

pub all_texts : (lead ending : List Item) (rs : List Row) → AreTexts lead ending rs → AllAre line.Text rs
all_texts lead ending [] h = absurd h
all_texts lead ending (r ∷ rs) h = h.0

text_blocks : (read : Reading) (lead ending : List Item) (rs : List Row) → AreTexts lead ending rs
    → blocks_by read rs ≡ gap lead ∷ tree_block (para rs) ∷ gap ending ∷ []
text_blocks read lead ending [] h = absurd h
text_blocks read lead ending (r ∷ rs) h =
    let is : AreBlocks (paragraph r rs ∷ []) (r ∷ rs) = ([], sym (append-nil (r ∷ rs)), (h.0, tt), refl) in
    read_by_cases read (paragraph r rs ∷ []) (r ∷ rs) is
    ∙ ap (λ xs. gap xs ∷ tree_block (para (r ∷ rs)) ∷ gap (last_ending (r ∷ rs)) ∷ []) h.1
    ∙ ap (λ xs. gap lead ∷ tree_block (para (r ∷ rs)) ∷ gap xs ∷ []) h.2

text_first : (lead ending : List Item) (rs ss : List Row) → AreTexts lead ending rs → AreUnits (units kind_of rs) rs
    → (us : List (List Row)) → AllByRecursion IsUnit us → EndOtherwise line.Text (joined us) → Apart same_block us (units kind_of (rs ++ ss))
text_first lead ending [] ss h u us a e = absurd h
text_first lead ending (r ∷ rs) ss h u us a e =
    subst (λ vs. Apart same_block us vs) (sym (alone_first r (rs ++ ss) (text_other r h.0.0)))
    (text_behind us (r ∷ []) (units kind_of (rs ++ ss)) a e h.0.0)

texts_last : (rs : List Row) (vs : List (List Row)) → AllAre line.Text rs → ((r : Row) → r.kind ≡ line.Text → IsRun same_block ((r ∷ []) ∷ []) vs)
    → Apart same_block (units kind_of rs) vs
texts_last [] vs h f = tt
texts_last (r ∷ []) vs h f =
    subst (λ us. Apart same_block us vs) (sym (alone_first r [] (text_other r h.0))) (f r h.0)
texts_last (r ∷ s ∷ rs) vs h f =
    subst (λ us. Apart same_block us vs) (sym (alone_first r (s ∷ rs) (text_other r h.0)))
    (more (units kind_of (s ∷ rs)) (alone_first s rs (text_other s h.1.0)) (texts_last (s ∷ rs) vs h.1 f))
  where
    more : (us : List (List Row)) → us ≡ (s ∷ []) ∷ units kind_of rs → Apart same_block us vs → Apart same_block ((r ∷ []) ∷ us) vs
    more [] e k = cc
    more (u ∷ us) e k = k

put_apart : (r y : Row) (us : List (List Row)) → r.kind ≡ line.Text → (y.kind ≡ line.Text → ⊥) → IsRun same_block ((r ∷ []) ∷ []) (put_first y us)
put_apart r y [] e b = ap (λ k. one_block k y.kind) e ∙ text_before y.kind b
put_apart r y (u ∷ us) e b = ap (λ k. one_block k y.kind) e ∙ text_before y.kind b

first_otherwise : (ys : List Row) → BeginOtherwise line.Text ys → (r : Row) → r.kind ≡ line.Text → IsRun same_block ((r ∷ []) ∷ []) (units kind_of ys)
first_otherwise [] b r e = tt
first_otherwise (y ∷ ys) b r e = put_apart r y (units_from kind_of (taken_len y.kind (inner_len (map kind_of ys))) ys) e b

pub text_round : (read : Reading) (lead ending : List Item) (xs rs ys : List Row) → AreContent xs → AreContent ys → EndOtherwise line.Text xs
    → BeginOtherwise line.Text ys → AreTexts lead ending rs
    → blocks_by read (xs ++ (rs ++ ys)) ≡ blocks_by read xs ++ ((gap lead ∷ tree_block (para rs) ∷ gap ending ∷ []) ++ blocks_by read ys)
text_round read lead ending xs rs ys h g e b t =
    let are : AreContent rs = texts_content rs (all_texts lead ending rs t) in
    let ux : AreUnits (units kind_of xs) xs = rows_units xs h.level in
    let ur : AreUnits (units kind_of rs) rs = rows_units rs are.level in
    let uy : AreUnits (units kind_of ys) ys = rows_units ys g.level in
    let both : AreUnits (units kind_of (rs ++ ys)) (rs ++ ys) = rows_units (rs ++ ys) (level_join 0 rs ys are.level g.level) in
    blocks_beside read xs (rs ++ ys) (units_beside xs (rs ++ ys) ux both)
    (text_first lead ending rs ys t ur (units kind_of xs) ux.each (subst (EndOtherwise line.Text) (sym ux.join) e))
    ∙ ap (λ ss. blocks_by read xs ++ ss)
    (blocks_beside read rs ys (units_beside rs ys ur uy) (texts_last rs (units kind_of ys) (all_texts lead ending rs t) (first_otherwise ys b))
    ∙ ap (λ ss. ss ++ blocks_by read ys) (text_blocks read lead ending rs t))

abbrev text_around : Reading → List Item → List Item → List Row → List Row → Around
text_around read lead ending xs ys =
    record { front = blocks_by read xs ++ gap lead ∷ []; holders = []; back = gap ending ∷ blocks_by read ys }

text_fits : (read : Reading) (lead ending : List Item) (xs ys : List Row) → AreContent xs → AreContent ys → EndOtherwise line.Text xs
    → BeginOtherwise line.Text ys → Fits (IsText lead ending) (λ i. para i.0) AreCellHolders (λ i. blocks_by read (xs ++ (i.0 ++ ys)))
text_fits read lead ending xs ys h g e b = record {
  around = text_around read lead ending xs ys;
  held = tt;
  is = λ i. text_round read lead ending xs i.0 ys h g e b i.1
      ∙ sym (append_assoc (blocks_by read xs) (gap lead ∷ []) (tree_block (para i.0) ∷ gap ending ∷ blocks_by read ys));
}

pub paragraph_stands : (ts : List TableRound) (xs ys : List Row) (lead ending : List Item) → AllByRecursion IsTableRound ts → length ts ≤ MOST_TABLES
    → AreContent xs → AreContent ys → EndOtherwise line.Text xs → BeginOtherwise line.Text ys → ParagraphStands ts xs ys lead ending
unfolding blocks
paragraph_stands ts xs ys lead ending h le a b e o =
    let I : Type 0 = IsText lead ending in
    let g : I → List Row = λ i. xs ++ (i.0 ++ ys) in
    let own : (i : I) → AreContent (g i) = λ i. content_join xs (i.0 ++ ys) a (content_join i.0 ys (texts_content i.0 (all_texts lead ending i.0 i.1)) b) in
    let f = cells_fit_within I (λ i. para i.0) g own (λ read. text_fits read lead ending xs ys a b e o) MOST_TABLES ts le h in
    record { around = f.around; of_cells = f.held; stands = λ rs t. f.is (rs, t) }
