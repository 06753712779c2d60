-- All blocks of rows are written, wherever blocks may stand: the body, and with it the page.
use Rattle.std.proofs.Common.{◌≡◌, ℕ, zero, suc, ◌+◌, ◌*◌, ◌<◌, true, false, List, [], ◌∷◌, ◌++◌, refl, sym, ap, ◌∙◌, subst, arith, append-nil}
use Rattle.std.specs.List.{flat_map, AllByRecursion}
use Rattle.wt_span.specs.Items.{Item}
use Rattle.wt_span.specs.Runs.{runs, IsRun, AreRuns}
use Rattle.wt_span.proofs.RunLaws.{runs_are}
use Rattle.wt_tree.specs.declared.kind.Kind.{Kind}
use Rattle.wt_tree.specs.declared.kind.Kind.TheVariants as kind
use Rattle.wt_lines.specs.declared.kind.LineKind.{LineKind}
use Rattle.wt_lines.specs.declared.kind.LineKind.TheVariants as line
use Rattle.wt_tables.specs.Extents.{is_open, is_end}
use Rattle.wt_tables.specs.Parts.{joined, units, unit_kind}
use Rattle.wt_page.specs.Rows.{Row, kind_of, rows}
use Rattle.wt_page.specs.Tables.{Reading, gaps}
use Rattle.wt_page.specs.Body.{one_block, same_block, block_stretches, run_stretches, blocks_by, within, blocks}
use Rattle.wt_page_round_trip.proofs.OfPage.{ArePageItems}
use Rattle.wt_page_round_trip.proofs.PageLines.{all_left, all_right, all_both}
use Rattle.wt_page_round_trip.proofs.Stretched.{IsPlaced, ArePlaced}
use Rattle.wt_page_round_trip.proofs.GoodRows.{IsSeen, IsGoodRow, AreGoodRows, page_rows}
use Rattle.wt_page_round_trip.proofs.TextNodes.{gaps_placed, para_placed, pre_placed, headings_placed, rules_placed}
use Rattle.wt_page_round_trip.proofs.ListNodes.{lists_placed}
use Rattle.wt_page_round_trip.proofs.RowUnits.{UnitBy, IsUnit, units_good, page_walk}
use Rattle.wt_page_round_trip.proofs.TableRows.{joined_more}
use Rattle.wt_page_round_trip.proofs.TableNodes.{HoldsBlocks, body_blocks, Reads}
use Rattle.wt_page_round_trip.proofs.TableParts.{units_joined, table_placed}

-- ---- runs of units of one kind

abbrev OfKind : LineKind → List (List Row) → Type 0
OfKind k us = AllByRecursion (λ u. unit_kind kind_of u ≡ k) us

-- lists follow lists, and preformatted text preformatted text
list_next : (k j : LineKind) → k ≡ line.List → one_block k j ≡ true → j ≡ line.List
list_next k line.List e h = refl
list_next k j e h = absurd (let f = ap (λ i. one_block i j) (sym e) ∙ h in cc)

pre_next : (k j : LineKind) → k ≡ line.Pre → one_block k j ≡ true → j ≡ line.Pre
pre_next k line.Pre e h = refl
pre_next k j e h = absurd (let f = ap (λ i. one_block i j) (sym e) ∙ h in cc)

run_of : (k : LineKind) → ((i j : LineKind) → i ≡ k → one_block i j ≡ true → j ≡ k) → (u : List Row) (us others : List (List Row))
    → unit_kind kind_of u ≡ k → IsRun same_block (u ∷ us) others → OfKind k (u ∷ us)
run_of k f u [] others e h = (e, tt)
run_of k f u (v ∷ us) others e h = (e, run_of k f v us others (f (unit_kind kind_of u) (unit_kind kind_of v) e h.0) h.1)

-- a kind that goes on in no other
run_alone : (k : LineKind) → ((j : LineKind) → one_block k j ≡ false) → (u : List Row) (us others : List (List Row)) → unit_kind kind_of u ≡ k
    → IsRun same_block (u ∷ us) others → us ≡ []
run_alone k f u [] others e h = refl
run_alone k f u (v ∷ us) others e h = absurd (let g = sym h.0 ∙ ap (λ i. one_block i (unit_kind kind_of v)) e ∙ f (unit_kind kind_of v) in cc)

unit_alone : (n : ℕ) (k : LineKind) → is_open k ≡ false → is_end k ≡ false → (r : Row) (ms : List Row) → r.kind ≡ k → IsUnit n (r ∷ ms) → ms ≡ []
unit_alone n k o e r ms is u =
    subst (λ x. UnitBy false x n ms) (ap is_end is ∙ e) (subst (λ x. UnitBy x (is_end r.kind) n ms) (ap is_open is ∙ o) u)

-- all rows of units of a kind that is no table's
rows_of_kind : (n : ℕ) (k : LineKind) → is_open k ≡ false → is_end k ≡ false → (us : List (List Row)) → AllByRecursion (IsUnit n) us → OfKind k us
    → AllByRecursion (λ (r : Row). r.kind ≡ k) (joined us)
rows_of_kind n k o e [] a h = tt
rows_of_kind n k o e ([] ∷ us) a h = absurd a.0
rows_of_kind n k o e ((r ∷ ms) ∷ us) a h =
    let z : ms ≡ [] = unit_alone n k o e r ms h.0 a.0 in
    subst (λ (xs : List Row). AllByRecursion (λ (r : Row). r.kind ≡ k) ((r ∷ xs) ++ joined us)) (sym z) (h.0, rows_of_kind n k o e us a.1 h.1)

seen_as : (k : LineKind) (rs : List Row) → AllByRecursion (λ (r : Row). r.kind ≡ k) rs → AreGoodRows rs → AllByRecursion (λ (r : Row). IsSeen k r.items) rs
seen_as k [] h g = tt
seen_as k (r ∷ rs) h g = (subst (λ (j : LineKind). IsSeen j r.items) h.0 g.0.seen, seen_as k rs h.1 g.1)

-- ---- a block

-- what reads a cell of a table, where tables may stand
abbrev ReadsCells : Reading → ℕ → Type 0
ReadsCells read m = (n : ℕ) → m ≡ suc n → Reads read n

table_unit : (m : ℕ) (r : Row) (ms : List Row) → r.kind ≡ line.TableOpen → IsUnit m (r ∷ ms) → UnitBy true false m ms
table_unit m r ms e u = subst (λ x. UnitBy true x m ms) (ap is_end e) (subst (λ x. UnitBy x (is_end r.kind) m ms) (ap is_open e) u)

table_block : (read : Reading) (m : ℕ) → ReadsCells read m → (k : ℕ) (q : Kind) → HoldsBlocks q → k + 4 * m < 78 → (r : Row) (ms : List Row)
    → r.kind ≡ line.TableOpen → UnitBy true false m ms → AreGoodRows (r ∷ ms)
    → ArePlaced k q (block_stretches read line.TableOpen (r ∷ ms))
table_block read zero i k q b small r ms e u g = absurd u
table_block read (suc m) i k q b small r ms e u g =
    table_placed read m (i m refl) k q b.table small r ms g.0 (subst (λ (j : LineKind). IsSeen j r.items) e g.0.seen) u g.1

-- a run of units, by the kind of its first
run_by : (read : Reading) (m : ℕ) → ReadsCells read m → (k : ℕ) (q : Kind) → HoldsBlocks q → k + 4 * m < 78 → (r : Row) (ms : List Row)
    (us others : List (List Row)) → IsRun same_block ((r ∷ ms) ∷ us) others → AllByRecursion (IsUnit m) ((r ∷ ms) ∷ us)
    → AreGoodRows (joined ((r ∷ ms) ∷ us)) → (j : LineKind) → r.kind ≡ j
    → ArePlaced k q (block_stretches read j (joined ((r ∷ ms) ∷ us)))
run_by read m i k q b small r ms us others h a g line.Blank e =
    let z : us ≡ [] = run_alone line.Blank (λ j. refl) (r ∷ ms) us others e h in
    let y : ms ≡ [] = unit_alone m line.Blank refl refl r ms e a.0 in
    subst (λ (xs : List (List Row)). ArePlaced k q (gaps (joined ((r ∷ ms) ∷ xs)))) (sym z)
    (subst (λ (xs : List Row). ArePlaced k q (gaps ((r ∷ xs) ++ []))) (sym y)
    (gaps_placed k q (r ∷ []) (g.0, tt) (subst (λ (j : LineKind). IsSeen j r.items) e g.0.seen, tt)))
run_by read m i k q b small r ms us others h a g line.TableOpen e =
    let z : us ≡ [] = run_alone line.TableOpen (λ j. refl) (r ∷ ms) us others e h in
    let all : joined ((r ∷ ms) ∷ us) ≡ r ∷ ms = ap (λ (xs : List (List Row)). joined ((r ∷ ms) ∷ xs)) z ∙ ap (λ xs. r ∷ xs) (append-nil ms) in
    subst (λ (xs : List Row). ArePlaced k q (block_stretches read line.TableOpen xs)) (sym all)
    (table_block read m i k q b small r ms e (table_unit m r ms e a.0) (subst AreGoodRows all g))
run_by read m i k q b small r ms us others h a g line.TableEnd e = para_placed k q (joined ((r ∷ ms) ∷ us)) g (omega (arith, small)) b.para
run_by read m i k q b small r ms us others h a g line.Caption e = para_placed k q (joined ((r ∷ ms) ∷ us)) g (omega (arith, small)) b.para
run_by read m i k q b small r ms us others h a g line.Row e = para_placed k q (joined ((r ∷ ms) ∷ us)) g (omega (arith, small)) b.para
run_by read m i k q b small r ms us others h a g line.Cell e = para_placed k q (joined ((r ∷ ms) ∷ us)) g (omega (arith, small)) b.para
run_by read m i k q b small r ms us others h a g line.Header e = para_placed k q (joined ((r ∷ ms) ∷ us)) g (omega (arith, small)) b.para
run_by read m i k q b small r ms us others h a g line.Heading e =
    let z : us ≡ [] = run_alone line.Heading (λ j. refl) (r ∷ ms) us others e h in
    let y : ms ≡ [] = unit_alone m line.Heading refl refl r ms e a.0 in
    subst (λ (xs : List (List Row)). ArePlaced k q (block_stretches read line.Heading (joined ((r ∷ ms) ∷ xs)))) (sym z)
    (subst (λ (xs : List Row). ArePlaced k q (block_stretches read line.Heading ((r ∷ xs) ++ []))) (sym y)
    (headings_placed k q b.heading (omega (arith, small)) (r ∷ []) (g.0, tt) (subst (λ (j : LineKind). IsSeen j r.items) e g.0.seen, tt)))
run_by read m i k q b small r ms us others h a g line.Rule e = rules_placed k q b.rule (omega (arith, small)) (joined ((r ∷ ms) ∷ us)) g
run_by read m i k q b small r ms us others h a g line.List e =
    let kinds : AllByRecursion (λ (r : Row). r.kind ≡ line.List) (joined ((r ∷ ms) ∷ us)) =
    rows_of_kind m line.List refl refl ((r ∷ ms) ∷ us) a (run_of line.List list_next (r ∷ ms) us others e h) in
    lists_placed k q b.lists (omega (arith, small)) (joined ((r ∷ ms) ∷ us)) g (seen_as line.List (joined ((r ∷ ms) ∷ us)) kinds g)
run_by read m i k q b small r ms us others h a g line.Pre e =
    let kinds : AllByRecursion (λ (r : Row). r.kind ≡ line.Pre) (joined ((r ∷ ms) ∷ us)) =
    rows_of_kind m line.Pre refl refl ((r ∷ ms) ∷ us) a (run_of line.Pre pre_next (r ∷ ms) us others e h) in
    pre_placed k q (joined ((r ∷ ms) ∷ us)) g (seen_as line.Pre (joined ((r ∷ ms) ∷ us)) kinds g) (omega (arith, small)) b.pre
run_by read m i k q b small r ms us others h a g line.Text e = para_placed k q (joined ((r ∷ ms) ∷ us)) g (omega (arith, small)) b.para

-- ---- all blocks

runs_placed : (read : Reading) (m : ℕ) → ReadsCells read m → (k : ℕ) (q : Kind) → HoldsBlocks q → k + 4 * m < 78 → (gs : List (List (List Row)))
    (us : List (List Row)) → AreRuns same_block gs us → AllByRecursion (IsUnit m) us → AreGoodRows (joined us)
    → ArePlaced k q (flat_map (run_stretches read) gs)
runs_placed read m i k q b small [] us h a g = tt
runs_placed read m i k q b small ([] ∷ gs) us h a g = absurd h.2
runs_placed read m i k q b small (([] ∷ vs) ∷ gs) us (others, e, run, rest) a g =
    absurd (let x = subst (λ (xs : List (List Row)). AllByRecursion (IsUnit m) xs) e a in x.0)
runs_placed read m i k q b small (((r ∷ ms) ∷ vs) ∷ gs) us (others, e, run, rest) a g =
    let run_units : List (List Row) = (r ∷ ms) ∷ vs in
    let units : AllByRecursion (IsUnit m) (run_units ++ others) = subst (λ (xs : List (List Row)). AllByRecursion (IsUnit m) xs) e a in
    let all : joined us ≡ joined run_units ++ joined others = ap joined e ∙ joined_more run_units others in
    let good : AreGoodRows (joined run_units ++ joined others) = subst AreGoodRows all g in
    all_both (IsPlaced k q) (run_stretches read run_units) (flat_map (run_stretches read) gs)
    (run_by read m i k q b small r ms vs others run (all_left (IsUnit m) run_units others units)
    (all_left IsGoodRow (joined run_units) (joined others) good) r.kind refl)
    (runs_placed read m i k q b small gs others rest (all_right (IsUnit m) run_units others units)
    (all_right IsGoodRow (joined run_units) (joined others) good))

by_placed : (read : Reading) (m : ℕ) → ReadsCells read m → Reads (blocks_by read) m
by_placed read m i k q b small rs g w =
    let us : List (List Row) = units kind_of rs in
    runs_placed read m i k q b small (runs same_block us) us (runs_are same_block us) (units_good rs m w)
    (subst AreGoodRows (sym (units_joined rs)) g)

none_more : (m n : ℕ) → m ≡ 0 → m ≡ suc n → ⊥
none_more m n e f = omega (arith, e, f)

less_one : (m n : ℕ) → suc m ≡ suc n → m ≡ n
less_one m n e = omega (arith, e)

within_reads : (m : ℕ) → Reads (within m) m
within_reads zero = by_placed gaps 0 (λ n e. absurd (none_more 0 n refl e))
within_reads (suc m) = by_placed (within m) (suc m) (λ n e. subst (Reads (within m)) (less_one m n e) (within_reads m))

-- what stands in the body of a page, which sections may lie round
pub body_placed : (xs : List Item) → ArePageItems xs → ArePlaced 9 kind.Body (blocks (rows xs))
unfolding blocks
body_placed xs h = within_reads 16 9 kind.Body body_blocks (omega arith) (rows xs) (page_rows xs h) (page_walk xs)
