-- What stands in the cells of a table is blocks by cases.
use Rattle.std.proofs.Common.{◌≡◌, ℕ, zero, suc, ◌+◌, Bool, true, false, List, [], ◌∷◌, ◌++◌, take, drop, refl, sym, ap, subst, cond, inl, inr, arith}
use Rattle.std.specs.Prelude.{not, map}
use Rattle.std.specs.List.{AllByRecursion}
use Rattle.wt_span.specs.Runs.{runs, IsRun, AreRuns}
use Rattle.wt_span.proofs.RunLaws.{runs_are}
use Rattle.wt_lines.specs.declared.kind.LineKind.{LineKind}
use Rattle.wt_lines.specs.declared.kind.LineKind.TheVariants as line
use Rattle.wt_tables.specs.Parts.{RowOf, joined, units, begins_part, begins_group, group_kind, groups, is_row, row_by, row_of, plain_len, captions_len, table_of}
use Rattle.wt_page.specs.Rows.{Row, kind_of}
use Rattle.wt_part_laws.specs.Units.{IsUnit, AreUnits}
use Rattle.wt_part_laws.specs.Cells.{HoldsBlocks, CellsHoldBlocks}
use Rattle.wt_part_laws.proofs.Falling.{IsPart, unit_is_part}
use Rattle.wt_part_laws.proofs.PageBlocks.{is_inner, Blocked, put_table, put_row, no_open}

-- ---- lists

all_front : {A : Type 0} (P : A → Type 0) (xs ys : List A) → AllByRecursion P (xs ++ ys) → AllByRecursion P xs
all_front P [] ys h = tt
all_front P (x ∷ xs) ys (h, hs) = (h, all_front P xs ys hs)

all_back : {A : Type 0} (P : A → Type 0) (xs ys : List A) → AllByRecursion P (xs ++ ys) → AllByRecursion P ys
all_back P [] ys h = h
all_back P (x ∷ xs) ys (h, hs) = all_back P xs ys hs

all_take : {A : Type 0} (P : A → Type 0) (n : ℕ) (xs : List A) → AllByRecursion P xs → AllByRecursion P (take n xs)
all_take P zero xs h = tt
all_take P (suc n) [] h = tt
all_take P (suc n) (x ∷ xs) (h, hs) = (h, all_take P n xs hs)

all_drop : {A : Type 0} (P : A → Type 0) (n : ℕ) (xs : List A) → AllByRecursion P xs → AllByRecursion P (drop n xs)
all_drop P zero xs h = h
all_drop P (suc n) [] h = tt
all_drop P (suc n) (x ∷ xs) (h, hs) = all_drop P n xs hs

runs_all : {A : Type 0} (P : A → Type 0) (joins : A → A → Bool) (rs : List (List A)) (xs : List A) → AreRuns joins rs xs → AllByRecursion P xs
    → AllByRecursion (λ r. AllByRecursion P r) rs
runs_all P joins [] xs z h = tt
runs_all P joins (r ∷ rs) xs (others, z, run, are) h =
    let all = subst (AllByRecursion P) z h in
    (all_front P r others all, runs_all P joins rs others are (all_back P r others all))

-- ---- blocks of units that begin no part

inner_by : (k : LineKind) → begins_part k ≡ false → (k ≡ line.TableEnd → ⊥) → is_inner k ≡ false
inner_by line.Blank b e = refl
inner_by line.TableOpen b e = refl
inner_by line.TableEnd b e = absurd (e refl)
inner_by line.Caption b e = absurd cc
inner_by line.Row b e = absurd cc
inner_by line.Cell b e = absurd cc
inner_by line.Header b e = absurd cc
inner_by line.Heading b e = refl
inner_by line.Rule b e = refl
inner_by line.List b e = refl
inner_by line.Pre b e = refl
inner_by line.Text b e = refl

abbrev Begins : List Row → Type 0
Begins u = begins_group kind_of u ≡ true

abbrev IsPlain : List Row → Type 0
IsPlain u = begins_group kind_of u ≡ false

put_unit : (u rs : List Row) → IsPart u → IsPlain u → Blocked rs → Blocked (u ++ rs)
put_unit [] rs p b more = absurd p
put_unit (r ∷ ss) rs (inl (e, f)) b more = put_table r ss rs e f more
put_unit (r ∷ ss) rs (inr (o, z)) b more =
    subst (λ (ts : List Row). Blocked (r ∷ (ts ++ rs))) (sym z) (put_row r.kind r rs refl (inner_by r.kind b o.no_end) (no_open r.kind o) more)

units_blocked : (us : List (List Row)) → AllByRecursion IsUnit us → AllByRecursion IsPlain us → Blocked (joined us)
units_blocked [] h p = record { its_blocks = []; are = refl }
units_blocked (u ∷ us) (h, hs) (p, ps) = put_unit u (joined us) (unit_is_part u h) p (units_blocked us hs ps)

-- ---- groups

abbrev IsGroup : List (List Row) → Type 0
IsGroup [] = ⊥
IsGroup (u ∷ us) = Begins u × AllByRecursion IsPlain us × AllByRecursion IsUnit (u ∷ us)

abbrev FirstBegins : List (List Row) → Type 0
FirstBegins [] = Unit {0}
FirstBegins (u ∷ us) = Begins u

abbrev goes_on : List Row → List Row → Bool
goes_on u v = not (begins_group kind_of v)

begins_of : (b : Bool) → not b ≡ false → b ≡ true
begins_of true h = refl
begins_of false h = absurd cc

plain_of : (b : Bool) → not b ≡ true → b ≡ false
plain_of true h = absurd cc
plain_of false h = refl

run_plain : (u : List Row) (us others : List (List Row)) → IsRun goes_on (u ∷ us) others → AllByRecursion IsPlain us
run_plain u [] others h = tt
run_plain u (v ∷ us) others (h, hs) = (plain_of (begins_group kind_of v) h, run_plain v us others hs)

run_ends : (u : List Row) (us others : List (List Row)) → IsRun goes_on (u ∷ us) others → FirstBegins others
run_ends u [] [] h = tt
run_ends u [] (v ∷ others) h = begins_of (begins_group kind_of v) h
run_ends u (v ∷ us) others (h, hs) = run_ends v us others hs

are_groups : (gs : List (List (List Row))) (us : List (List Row)) → AreRuns goes_on gs us → AllByRecursion IsUnit us → FirstBegins us → AllByRecursion IsGroup gs
are_groups [] us z h b = tt
are_groups ([] ∷ gs) us (others, z, run, are) h b = absurd run
are_groups ((u ∷ vs) ∷ gs) us (others, z, run, are) h b =
    let all = subst (AllByRecursion IsUnit) z h in (
      (subst FirstBegins z b, run_plain u vs others run, all_front IsUnit (u ∷ vs) others all),
      are_groups gs others are (all_back IsUnit (u ∷ vs) others all) (run_ends u vs others run),
    )

begins_by : (t : Bool) (u : List Row) (us : List (List Row)) (n : ℕ) → begins_group kind_of u ≡ t → FirstBegins (drop n us)
    → FirstBegins (drop (cond (not t) (1 + n) 0) (u ∷ us))
begins_by true u us n e h = e
begins_by false u us n e h =
    let m : 1 + n ≡ suc n = omega arith in subst (λ (k : ℕ). FirstBegins (drop k (u ∷ us))) (sym m) h

past_plain : (us : List (List Row)) → FirstBegins (drop (plain_len kind_of us) us)
past_plain [] = tt
past_plain (u ∷ us) = begins_by (begins_group kind_of u) u us (plain_len kind_of us) refl (past_plain us)

-- ---- cells

no_table : (k : LineKind) → k ≡ line.TableOpen → begins_part k ≡ true → ⊥
no_table k e b =
    let f : begins_part k ≡ false = ap begins_part e in absurd cc

group_holds : (g : List (List Row)) → IsGroup g → HoldsBlocks (joined g)
group_holds [] h = absurd h
group_holds (u ∷ us) (b, p, (h, hs)) = by_part u b (unit_is_part u h)
  where
    by_part : (v : List Row) → Begins v → IsPart v → HoldsBlocks (v ++ joined us)
    by_part [] c part = absurd part
    by_part (r ∷ rs) c (inl (e, f)) = absurd (no_table r.kind e c)
    by_part (r ∷ rs) c (inr (o, z)) =
        let more = units_blocked us hs p in
        subst (λ (ss : List Row). HoldsBlocks (r ∷ (ss ++ joined us))) (sym z) (c, more.its_blocks, more.are)

groups_hold : (gs : List (List (List Row))) → AllByRecursion IsGroup gs → AllByRecursion HoldsBlocks (map joined gs)
groups_hold [] h = tt
groups_hold (g ∷ gs) (h, hs) = (group_holds g h, groups_hold gs hs)

abbrev RowHolds : RowOf Row → Type 0
RowHolds r = AllByRecursion HoldsBlocks r.cells

row_holds_by : (begun : Bool) (g : List (List Row)) (gs : List (List (List Row))) → IsGroup g → AllByRecursion IsGroup gs
    → RowHolds (row_by kind_of begun g gs)
row_holds_by begun [] gs h hs = absurd h
row_holds_by true (u ∷ us) gs h hs = groups_hold gs hs
row_holds_by false (u ∷ us) gs h hs = (group_holds (u ∷ us) h, groups_hold gs hs)

row_holds : (gs : List (List (List Row))) → AllByRecursion IsGroup gs → RowHolds (row_of kind_of gs)
row_holds [] h = tt
row_holds (g ∷ gs) (h, hs) = row_holds_by (is_row (group_kind kind_of g)) g gs h hs

rows_hold : (rs : List (List (List (List Row)))) → AllByRecursion (λ gs. AllByRecursion IsGroup gs) rs → AllByRecursion RowHolds (map (row_of kind_of) rs)
rows_hold [] h = tt
rows_hold (gs ∷ rs) (h, hs) = (row_holds gs h, rows_hold rs hs)

abbrev same_row : List (List Row) → List (List Row) → Bool
same_row g h = not (is_row (group_kind kind_of h))

pub cells_hold : (first : Row) (inside : List Row) → AreUnits (units kind_of inside) inside → CellsHoldBlocks (table_of kind_of first inside)
cells_hold first inside h =
    let us = units kind_of inside in
    let parts = drop (plain_len kind_of us) us in
    let gs = groups kind_of parts in
    let n = captions_len kind_of gs in
    let are = are_groups gs parts (runs_are goes_on parts) (all_drop IsUnit (plain_len kind_of us) us h.each) (past_plain us) in
    let further = drop n gs in
    record {
      captions = groups_hold (take n gs) (all_take IsGroup n gs are);
      rows = rows_hold (runs same_row further) (runs_all IsGroup same_row (runs same_row further) further (runs_are same_row further) (all_drop IsGroup n gs are));
    }
