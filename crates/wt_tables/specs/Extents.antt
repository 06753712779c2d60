-- How far tables go, by counts over the kinds of lines.
use Rattle.std.specs.Prelude.{ℕ, suc, ◌-◌, ◌==◌, Bool, true, false, List, length, take, min}
use Rattle.std.specs.List.{count_by, position_or_len, range_with_len}
use Rattle.wt_lines.specs.declared.kind.LineKind.{LineKind}
use Rattle.wt_lines.specs.declared.kind.LineKind.TheVariants as kind

-- How many tables are open after a line of this kind, at which so many are. A table is open at the lines after the one that opens it,
-- up to and with the one that ends it.
abbrev pub behind : ℕ → LineKind → ℕ
behind n kind.Blank = n
behind n kind.TableOpen = suc n
behind n kind.TableEnd = n - 1
behind n kind.Caption = n
behind n kind.Row = n
behind n kind.Cell = n
behind n kind.Header = n
behind n kind.Heading = n
behind n kind.Rule = n
behind n kind.List = n
behind n kind.Pre = n
behind n kind.Text = n

-- ---- extents

abbrev pub is_open : LineKind → Bool
is_open kind.Blank = false
is_open kind.TableOpen = true
is_open kind.TableEnd = false
is_open kind.Caption = false
is_open kind.Row = false
is_open kind.Cell = false
is_open kind.Header = false
is_open kind.Heading = false
is_open kind.Rule = false
is_open kind.List = false
is_open kind.Pre = false
is_open kind.Text = false

abbrev pub is_end : LineKind → Bool
is_end kind.Blank = false
is_end kind.TableOpen = false
is_end kind.TableEnd = true
is_end kind.Caption = false
is_end kind.Row = false
is_end kind.Cell = false
is_end kind.Header = false
is_end kind.Heading = false
is_end kind.Rule = false
is_end kind.List = false
is_end kind.Pre = false
is_end kind.Text = false

-- Of the kinds of the lines after an opening one: up to and with line `k`, lines that end a table are one more than lines
-- that open one.
abbrev pub closes : List LineKind → ℕ → Bool
closes ks k = count_by is_end (take (suc k) ks) == suc (count_by is_open (take (suc k) ks))

-- how many of them belong to the table: up to and with the first that closes it, or all
unfoldable pub inner_len : List LineKind → ℕ
inner_len ks = min (suc (position_or_len (closes ks) (range_with_len 0 (length ks)))) (length ks)
