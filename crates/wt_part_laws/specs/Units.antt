-- Units of rows by counts: a row that neither opens nor ends a table, or all rows of a table.
use Rattle.std.specs.Prelude.{◌≡◌, ◌<◌, ℕ, zero, suc, List, [], ◌∷◌, ◌++◌, length, take}
use Rattle.std.specs.List.{AllByRecursion}
use Rattle.wt_lines.specs.declared.kind.LineKind.TheVariants as line
use Rattle.wt_tables.specs.Extents.{behind}
use Rattle.wt_tables.specs.Parts.{joined, units}
use Rattle.wt_page.specs.Rows.{Row, kind_of}
use Rattle.wt_part_laws.specs.Counts.{opened, ended}

-- Rows that open as many tables as they end, and end fewer up to any row before the last. So a table ends with the row that
-- brings its count back.
pub record IsUnit (u : List Row) : Type 0 where
  pub holds_rows : 0 < length u
  pub balances : opened u ≡ ended u
  pub ends_fewer : (n : ℕ) → 0 < n → n < length u → ended (take n u) < opened (take n u)

-- these rows are units, one after the other
pub record AreUnits (us : List (List Row)) (rs : List Row) : Type 0 where
  pub join : joined us ≡ rs
  pub each : AllByRecursion IsUnit us

-- After the row that opens a table are whole units, and then the row that ends it.
pub record HoldsUnits (rs : List Row) : Type 0 where
  pub inside : List Row
  pub last : Row
  pub are_rows : rs ≡ inside ++ last ∷ []
  pub ends : last.kind ≡ line.TableEnd
  pub are_units : AreUnits (units kind_of inside) inside

-- So many tables are open at the first row, none behind the last, and each row that ends one has one to end.
abbrev pub Level : ℕ → List Row → Type 0
Level zero [] = Unit {0}
Level (suc d) [] = ⊥
Level d (r ∷ rs) = (r.kind ≡ line.TableEnd → 0 < d) × Level (behind d r.kind) rs
