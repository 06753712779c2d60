-- A body has no more numbers than its rows allow: at most two for each item, and what forms make.
use Rattle.std.proofs.Common.{◌≡◌, ℕ, zero, suc, ◌+◌, ◌*◌, ◌≤◌, Bool, true, false, List, [], ◌∷◌, ◌++◌, length, drop, map, refl, sym, ap, ◌∙◌, subst, arith}
use Rattle.std.specs.List.{flat_map, AllByRecursion}
use Rattle.std.proofs.lemmas.Grind.{flat_map-append}
use Rattle.wt_span.specs.Items.{Item}
use Rattle.wt_span.specs.Runs.{runs, IsRun, AreRuns}
use Rattle.wt_span.proofs.RunLaws.{runs_are}
use Rattle.wt_lines.specs.declared.kind.LineKind.{LineKind}
use Rattle.wt_lines.specs.declared.kind.LineKind.TheVariants as line
use Rattle.wt_lines.specs.declared.kind.TheConstants.{MOST_TABLES}
use Rattle.wt_lines.specs.Lines.{full_lines, goes_on}
use Rattle.wt_tables.specs.Extents.{is_open, inner_len}
use Rattle.wt_tables.specs.Parts.{joined, taken_len, put_first, units_from, units, unit_kind}
use Rattle.wt_page.specs.Rows.{Row, kind_of, rows}
use Rattle.wt_page.specs.Stretches.{stretches_parts}
use Rattle.wt_page.specs.Tables.{Reading, gaps}
use Rattle.wt_page.specs.Body.{is_list_line, one_block, same_block, block_stretches, run_stretches, blocks_by, within, blocks, meaning}
use Rattle.wt_page.proofs.HeldBody.{units_joined}
use Rattle.wt_annotated.specs.Counted.{numbered}
use Rattle.wt_page_round_trip.specs.Numbers.{makes_all}
use Rattle.wt_page_round_trip.proofs.Makes.{children_count}
use Rattle.wt_page_round_trip.proofs.Allowances.{allowed_all, allowed_append, AreFit, fit_front, fit_back}
use Rattle.wt_page_round_trip.proofs.StretchCounts.{total, total_append}
use Rattle.wt_page_round_trip.proofs.TextCounts.{para_count, pre_count, headings_count, rules_count}
use Rattle.wt_page_round_trip.proofs.ListCounts.{AreLists, of_lists}
use Rattle.wt_page_round_trip.proofs.TableCounts.{IsFew, gaps_few, table_count}
use Rattle.wt_page_round_trip.proofs.RowCounts.{rows_allowed, rows_fit}

-- ---- units: a row, or the rows of a table

abbrev IsUnit : List Row → Type 0
IsUnit [] = ⊥
IsUnit (r ∷ []) = Unit {0}
IsUnit (r ∷ s ∷ rs) = is_open r.kind ≡ true

abbrev AreUnits : List (List Row) → Type 0
AreUnits us = AllByRecursion IsUnit us

none_taken : (k : LineKind) (inner : ℕ) → is_open k ≡ false → taken_len k inner ≡ 0
none_taken line.Blank inner e = refl
none_taken line.TableOpen inner e = absurd cc
none_taken line.TableEnd inner e = refl
none_taken line.Caption inner e = refl
none_taken line.Row inner e = refl
none_taken line.Cell inner e = refl
none_taken line.Header inner e = refl
none_taken line.Heading inner e = refl
none_taken line.Rule inner e = refl
none_taken line.List inner e = refl
none_taken line.Pre inner e = refl
none_taken line.Text inner e = refl

abbrev behind_first : List (List Row) → List (List Row)
behind_first [] = []
behind_first (u ∷ us) = us

open_unit : (r : Row) (u : List Row) → is_open r.kind ≡ true → IsUnit (r ∷ u)
open_unit r [] e = tt
open_unit r (s ∷ u) e = e

open_first : (r : Row) (us : List (List Row)) → is_open r.kind ≡ true → AreUnits (behind_first us) → AreUnits (put_first r us)
open_first r [] e h = (tt, tt)
open_first r (u ∷ us) e h = (open_unit r u e, h)

-- what is taken where nothing goes on is empty
alone : (r : Row) (rs : List Row) → AreUnits (behind_first (units_from kind_of 0 rs)) → AreUnits (put_first r (units_from kind_of 0 rs))
alone r [] h = (tt, tt)
alone r (s ∷ rs) h = (tt, h)

first_unit : (r : Row) (rs : List Row) (n : ℕ) (v : Bool) → is_open r.kind ≡ v → n ≡ taken_len (kind_of r) (inner_len (map kind_of rs))
    → AreUnits (behind_first (units_from kind_of n rs)) → AreUnits (put_first r (units_from kind_of n rs))
first_unit r rs n true e d h = open_first r (units_from kind_of n rs) e h
first_unit r rs n false e d h =
    let z : n ≡ 0 = d ∙ none_taken r.kind (inner_len (map kind_of rs)) e in
    subst (λ k. AreUnits (put_first r (units_from kind_of k rs))) (sym z)
    (alone r rs (subst (λ k. AreUnits (behind_first (units_from kind_of k rs))) z h))

put_behind : (r : Row) (us : List (List Row)) → AreUnits (behind_first us) → AreUnits (behind_first (put_first r us))
put_behind r [] h = tt
put_behind r (u ∷ us) h = h

from_units : (n : ℕ) (rs : List Row) → AreUnits (behind_first (units_from kind_of n rs))
from_units n [] = tt
from_units (suc n) (r ∷ rs) = put_behind r (units_from kind_of n rs) (from_units n rs)
from_units zero (r ∷ rs) =
    let n = taken_len (kind_of r) (inner_len (map kind_of rs)) in
    first_unit r rs n (is_open r.kind) refl refl (from_units n rs)

behind_is : (us : List (List Row)) → behind_first us ≡ drop 1 us
behind_is [] = refl
behind_is (u ∷ us) = refl

are_units : (rs : List Row) → AreUnits (units kind_of rs)
are_units rs = subst AreUnits (behind_is (units_from kind_of 0 rs)) (from_units 0 rs)

-- ---- a run of lists holds rows of lists alone

list_next : (k j : LineKind) → one_block k j ≡ true → is_list_line k ≡ true → is_list_line j ≡ true
list_next line.Blank j e h = absurd cc
list_next line.TableOpen j e h = absurd cc
list_next line.TableEnd j e h = absurd cc
list_next line.Caption j e h = absurd cc
list_next line.Row j e h = absurd cc
list_next line.Cell j e h = absurd cc
list_next line.Header j e h = absurd cc
list_next line.Heading j e h = absurd cc
list_next line.Rule j e h = absurd cc
list_next line.List j e h = e
list_next line.Pre j e h = absurd cc
list_next line.Text j e h = absurd cc

list_closed : (k : LineKind) → is_list_line k ≡ true → is_open k ≡ false
list_closed line.Blank e = refl
list_closed line.TableOpen e = absurd cc
list_closed line.TableEnd e = refl
list_closed line.Caption e = refl
list_closed line.Row e = refl
list_closed line.Cell e = refl
list_closed line.Header e = refl
list_closed line.Heading e = refl
list_closed line.Rule e = refl
list_closed line.List e = refl
list_closed line.Pre e = refl
list_closed line.Text e = refl

list_run : (u : List Row) (us others : List (List Row)) → IsRun same_block (u ∷ us) others → AreUnits (u ∷ us) → is_list_line (unit_kind kind_of u) ≡ true
    → AreLists (joined (u ∷ us))
list_run [] us others run h e = absurd h.0
list_run (r ∷ s ∷ rs) us others run h e = let a = list_closed r.kind e in let b : is_open r.kind ≡ true = h.0 in absurd cc
list_run (r ∷ []) [] others run h e = (e, tt)
list_run (r ∷ []) (v ∷ us) others run h e =
    (e, list_run v us others run.1 h.1 (list_next r.kind (unit_kind kind_of v) run.0 e))

-- ---- blocks

first_run : (u : List Row) (us : List (List Row)) → IsUnit u → unit_kind kind_of (joined (u ∷ us)) ≡ unit_kind kind_of u
first_run [] us h = absurd h
first_run (r ∷ u) us h = refl

block_few : (read : Reading) → IsFew read → (k : LineKind) (rs : List Row) → unit_kind kind_of rs ≡ k → (is_list_line k ≡ true → AreLists rs) → AreFit rs
    → total (block_stretches read k rs) ≤ allowed_all rs
block_few read h line.Blank rs e l f = gaps_few rs f
block_few read h line.TableOpen (r ∷ rs) e l f = table_count read h r rs (ap is_open e) f
block_few read h line.TableEnd (r ∷ rs) e l f = para_count r rs f
block_few read h line.Caption (r ∷ rs) e l f = para_count r rs f
block_few read h line.Row (r ∷ rs) e l f = para_count r rs f
block_few read h line.Cell (r ∷ rs) e l f = para_count r rs f
block_few read h line.Header (r ∷ rs) e l f = para_count r rs f
block_few read h line.Heading rs e l f = headings_count rs f
block_few read h line.Rule rs e l f = rules_count rs f
block_few read h line.List rs e l f = of_lists rs (l refl) f
block_few read h line.Pre (r ∷ rs) e l f = pre_count r rs f
block_few read h line.Text (r ∷ rs) e l f = para_count r rs f
block_few read h line.TableOpen [] e l f = omega arith
block_few read h line.TableEnd [] e l f = absurd cc
block_few read h line.Caption [] e l f = absurd cc
block_few read h line.Row [] e l f = absurd cc
block_few read h line.Cell [] e l f = absurd cc
block_few read h line.Header [] e l f = absurd cc
block_few read h line.Pre [] e l f = absurd cc
block_few read h line.Text [] e l f = absurd cc

run_few : (read : Reading) → IsFew read → (us others : List (List Row)) → IsRun same_block us others → AreUnits us → AreFit (joined us)
    → total (run_stretches read us) ≤ allowed_all (joined us)
run_few read h [] others run g f = absurd run
run_few read h (u ∷ us) others run g f =
    let all = joined (u ∷ us) in
    let same = first_run u us g.0 in
    block_few read h (unit_kind kind_of all) all refl (λ e. list_run u us others run g (ap is_list_line (sym same) ∙ e)) f

all_front : (us vs : List (List Row)) → AreUnits (us ++ vs) → AreUnits us
all_front [] vs h = tt
all_front (u ∷ us) vs h = (h.0, all_front us vs h.1)

all_back : (us vs : List (List Row)) → AreUnits (us ++ vs) → AreUnits vs
all_back [] vs h = h
all_back (u ∷ us) vs h = all_back us vs h.1

runs_few : (read : Reading) → IsFew read → (bs : List (List (List Row))) (us : List (List Row)) → AreRuns same_block bs us → AreUnits us → AreFit (joined us)
    → total (flat_map (run_stretches read) bs) ≤ allowed_all (joined us)
runs_few read h [] us r g f = omega arith
runs_few read h (b ∷ bs) us (others, e, run, rest) g f =
    let units_ = subst AreUnits e g in
    let cut : joined us ≡ joined b ++ joined others = ap joined e ∙ flat_map-append (λ l. l) b others in
    let fits = subst AreFit cut f in
    omega (
      arith,
      total_append (run_stretches read b) (flat_map (run_stretches read) bs),
      run_few read h b others run (all_front b others units_) (fit_front (joined b) (joined others) fits),
      runs_few read h bs others rest (all_back b others units_) (fit_back (joined b) (joined others) fits),
      ap allowed_all cut,
      allowed_append (joined b) (joined others),
    )

blocks_by_few : (read : Reading) → IsFew read → IsFew (blocks_by read)
blocks_by_few read h rs f =
    let us = units kind_of rs in
    let same = units_joined kind_of rs in
    omega (
      arith,
      runs_few read h (runs same_block us) us (runs_are same_block us) (are_units rs) (subst AreFit (sym same) f),
      ap allowed_all same,
    )

within_few : (n : ℕ) → IsFew (within n)
within_few zero = blocks_by_few gaps gaps_few
within_few (suc n) = blocks_by_few (within n) (within_few n)

blocks_few : IsFew blocks
unfolding blocks
blocks_few rs f = within_few MOST_TABLES rs f

-- ---- the body

all_rows : (xs : List Item) → allowed_all (rows xs) ≤ 2 * length xs + makes_all xs
unfolding rows
all_rows xs = omega (arith, rows_allowed 0 (full_lines xs) xs (runs_are goes_on xs))

all_fit : (xs : List Item) → AreFit (rows xs)
unfolding rows
all_fit xs = rows_fit 0 (full_lines xs)

pub meaning_count : (xs : List Item) → numbered (meaning xs) ≤ 2 * length xs + makes_all xs
unfolding meaning
meaning_count xs = omega (arith, children_count (stretches_parts (blocks (rows xs))), blocks_few (rows xs) (all_fit xs), all_rows xs)
