-- How many numbers the rows of a page allow: one more than a row has items, of a list or of cells twice as many as it has, and where a
-- table begins one less than that; and what forms make.
use Rattle.std.proofs.Common.{◌≡◌, ℕ, zero, suc, ◌+◌, ◌-◌, ◌*◌, ◌<◌, ◌≤◌, Bool, true, false, List, [], ◌∷◌, ◌++◌, length, refl, arith, length-append}
use Rattle.std.specs.List.{AllByRecursion}
use Rattle.wt_lines.specs.declared.kind.LineKind.{LineKind}
use Rattle.wt_lines.specs.declared.kind.LineKind.TheVariants as line
use Rattle.wt_tables.specs.Extents.{is_open}
use Rattle.wt_tables.specs.Parts.{begins_part}
use Rattle.wt_page.specs.Rows.{Row, row_items, all_items}
use Rattle.wt_page.specs.Lists.{prefix_of}
use Rattle.wt_page.specs.Body.{is_list_line}
use Rattle.wt_page_round_trip.specs.Numbers.{makes_all}
use Rattle.wt_page_round_trip.proofs.Makes.{makes_append}

-- ---- a row of so many items, beside what forms make

abbrev pub twice : ℕ → ℕ
twice zero = 1
twice (suc n) = 2 * suc n

abbrev pub own : LineKind → ℕ → ℕ
own line.Blank n = 1 + n
own line.TableOpen n = 2 * n - 1
own line.TableEnd n = 1 + n
own line.Caption n = twice n
own line.Row n = twice n
own line.Cell n = twice n
own line.Header n = twice n
own line.Heading n = 1 + n
own line.Rule n = 1 + n
own line.List n = twice n
own line.Pre n = 1 + n
own line.Text n = 1 + n

twice_more : (n : ℕ) → 1 + n ≤ twice n
twice_more zero = omega arith
twice_more (suc n) = omega arith

-- how many parts so many items can have, of which the first begins with so many that aren't cut
abbrev pub most_parts : ℕ → ℕ → ℕ
most_parts zero n = 1 + n
most_parts (suc k) zero = 1
most_parts (suc k) (suc n) = suc n

twice_parts : (n m : ℕ) → m ≤ n → most_parts 1 m + m ≤ twice n
twice_parts zero zero h = omega arith
twice_parts zero (suc m) h = absurd (omega arith)
twice_parts (suc n) zero h = omega arith
twice_parts (suc n) (suc m) h = omega arith

pub own_more : (k : LineKind) (n : ℕ) → is_open k ≡ false → 1 + n ≤ own k n
own_more line.Blank n e = omega arith
own_more line.TableOpen n e = absurd cc
own_more line.TableEnd n e = omega arith
own_more line.Caption n e = twice_more n
own_more line.Row n e = twice_more n
own_more line.Cell n e = twice_more n
own_more line.Header n e = twice_more n
own_more line.Heading n e = omega arith
own_more line.Rule n e = omega arith
own_more line.List n e = twice_more n
own_more line.Pre n e = omega arith
own_more line.Text n e = omega arith

own_open : (k : LineKind) (n : ℕ) → is_open k ≡ true → 2 ≤ n → 1 + n ≤ own k n
own_open line.Blank n e h = absurd cc
own_open line.TableOpen n e h = omega arith
own_open line.TableEnd n e h = absurd cc
own_open line.Caption n e h = absurd cc
own_open line.Row n e h = absurd cc
own_open line.Cell n e h = absurd cc
own_open line.Header n e h = absurd cc
own_open line.Heading n e h = absurd cc
own_open line.Rule n e h = absurd cc
own_open line.List n e h = absurd cc
own_open line.Pre n e h = absurd cc
own_open line.Text n e h = absurd cc

pub own_parts : (k : LineKind) (n m : ℕ) → begins_part k ≡ true → m ≤ n → most_parts 1 m + m ≤ own k n
own_parts line.Blank n m e h = absurd cc
own_parts line.TableOpen n m e h = absurd cc
own_parts line.TableEnd n m e h = absurd cc
own_parts line.Caption n m e h = twice_parts n m h
own_parts line.Row n m e h = twice_parts n m h
own_parts line.Cell n m e h = twice_parts n m h
own_parts line.Header n m e h = twice_parts n m h
own_parts line.Heading n m e h = absurd cc
own_parts line.Rule n m e h = absurd cc
own_parts line.List n m e h = absurd cc
own_parts line.Pre n m e h = absurd cc
own_parts line.Text n m e h = absurd cc

pub part_closed : (k : LineKind) → begins_part k ≡ true → is_open k ≡ false
part_closed line.Blank e = refl
part_closed line.TableOpen e = absurd cc
part_closed line.TableEnd e = refl
part_closed line.Caption e = refl
part_closed line.Row e = refl
part_closed line.Cell e = refl
part_closed line.Header e = refl
part_closed line.Heading e = refl
part_closed line.Rule e = refl
part_closed line.List e = refl
part_closed line.Pre e = refl
part_closed line.Text e = refl

twice_is : (n : ℕ) → 0 < n → 2 * n ≤ twice n
twice_is zero h = absurd (omega arith)
twice_is (suc n) h = omega arith

pub own_list : (k : LineKind) (n : ℕ) → is_list_line k ≡ true → 0 < n → 2 * n ≤ own k n
own_list line.Blank n e h = absurd cc
own_list line.TableOpen n e h = absurd cc
own_list line.TableEnd n e h = absurd cc
own_list line.Caption n e h = absurd cc
own_list line.Row n e h = absurd cc
own_list line.Cell n e h = absurd cc
own_list line.Header n e h = absurd cc
own_list line.Heading n e h = absurd cc
own_list line.Rule n e h = absurd cc
own_list line.List n e h = twice_is n h
own_list line.Pre n e h = absurd cc
own_list line.Text n e h = absurd cc

-- ---- rows

abbrev pub allowed : Row → ℕ
allowed r = own r.kind (length (row_items r)) + makes_all (row_items r)

abbrev pub allowed_all : List Row → ℕ
allowed_all [] = 0
allowed_all (r ∷ rs) = allowed r + allowed_all rs

pub allowed_append : (rs ss : List Row) → allowed_all (rs ++ ss) ≡ allowed_all rs + allowed_all ss
allowed_append [] ss = omega arith
allowed_append (r ∷ rs) ss = omega (arith, allowed_append rs ss)

-- A row that opens a table has two items at least; one of a list a prefix, or two items.
abbrev pub IsFit : Row → Type 0
IsFit r = (is_open r.kind ≡ true → 2 ≤ length (row_items r)) × (is_list_line r.kind ≡ true → 2 ≤ length (prefix_of r.items) + length (row_items r))

abbrev pub AreFit : List Row → Type 0
AreFit rs = AllByRecursion IsFit rs

pub fit_front : (rs ss : List Row) → AreFit (rs ++ ss) → AreFit rs
fit_front [] ss h = tt
fit_front (r ∷ rs) ss h = (h.0, fit_front rs ss h.1)

pub fit_back : (rs ss : List Row) → AreFit (rs ++ ss) → AreFit ss
fit_back [] ss h = h
fit_back (r ∷ rs) ss h = fit_back rs ss h.1

pub fit_both : (rs ss : List Row) → AreFit rs → AreFit ss → AreFit (rs ++ ss)
fit_both [] ss h g = g
fit_both (r ∷ rs) ss h g = (h.0, fit_both rs ss h.1 g)

pub row_makes : (r : Row) → makes_all (row_items r) ≡ makes_all r.lead + makes_all r.items + makes_all r.ending
row_makes r = omega (arith, makes_append r.lead (r.items ++ r.ending), makes_append r.items r.ending)

pub row_length : (r : Row) → length (row_items r) ≡ length r.lead + length r.items + length r.ending
row_length r = omega (arith, length-append r.lead (r.items ++ r.ending), length-append r.items r.ending)

allowed_by : (k : LineKind) (n : ℕ) (v : Bool) → is_open k ≡ v → (is_open k ≡ true → 2 ≤ n) → 1 + n ≤ own k n
allowed_by k n true e h = own_open k n e (h e)
allowed_by k n false e h = own_more k n e

-- one number more than a row has items
pub row_allows : (r : Row) → IsFit r → 1 + length (row_items r) + makes_all (row_items r) ≤ allowed r
row_allows r h = omega (arith, allowed_by r.kind (length (row_items r)) (is_open r.kind) refl h.0)

own_three : (k : LineKind) (n : ℕ) → is_open k ≡ true → 2 ≤ n → 3 ≤ own k n
own_three k n e h = omega (arith, own_open k n e h)

-- where a table begins, for the table, its body and its first row
pub open_allows : (r : Row) → IsFit r → is_open r.kind ≡ true → 3 + makes_all (row_items r) ≤ allowed r
open_allows r h e = omega (arith, own_three r.kind (length (row_items r)) e (h.0 e))

pub rows_allow : (rs : List Row) → AreFit rs → makes_all (all_items rs) ≤ allowed_all rs
rows_allow [] h = omega arith
rows_allow (r ∷ rs) h = omega (arith, makes_append (row_items r) (all_items rs), row_allows r h.0, rows_allow rs h.1)
