-- Units of rows by the kinds of these: how many rows the first has, and how many rows come before the first unit that begins a part.
use Rattle.std.specs.Prelude.{ℕ, zero, suc, List, [], ◌∷◌, if◌then◌else◌}
use Rattle.wt_lines.specs.declared.kind.LineKind.{LineKind}
use Rattle.wt_lines.specs.declared.kind.LineKind.TheVariants as line
use Rattle.wt_tables.specs.Extents.{inner_len}
use Rattle.wt_tables.specs.Parts.{taken_len, begins_part}
use Rattle.wt_rows.specs.declared.row.RowAt.{RowAt}

abbrev pub kind_at : RowAt → LineKind
kind_at r = r.kind

-- one row more, and those after it, among which so many further tables are open; an end of the table is its last row
abbrev pub after_kind : LineKind → ℕ → (ℕ → ℕ) → ℕ
after_kind line.Blank d go = suc (go d)
after_kind line.TableOpen d go = suc (go (suc d))
after_kind line.TableEnd zero go = 1
after_kind line.TableEnd (suc d) go = suc (go d)
after_kind line.Caption d go = suc (go d)
after_kind line.Row d go = suc (go d)
after_kind line.Cell d go = suc (go d)
after_kind line.Header d go = suc (go d)
after_kind line.Heading d go = suc (go d)
after_kind line.Rule d go = suc (go d)
after_kind line.List d go = suc (go d)
after_kind line.Pre d go = suc (go d)
after_kind line.Text d go = suc (go d)

-- how many rows the first unit has
abbrev pub unit_len : List LineKind → ℕ
unit_len [] = 0
unit_len (k ∷ ks) = suc (taken_len k (inner_len ks))

-- of rows of which the first so many belong to a unit: how many come before the first unit after it that begins a part
abbrev pub plain_count : ℕ → List LineKind → ℕ
plain_count n [] = 0
plain_count (suc n) (k ∷ ks) = suc (plain_count n ks)
plain_count zero (k ∷ ks) = if begins_part k then 0 else suc (plain_count (taken_len k (inner_len ks)) ks)
