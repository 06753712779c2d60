use Rattle.std.proofs.Common.{◌≡◌, ℕ, ◌+◌, ◌-◌, ◌≤◌, Some, length, drop}
use Rattle.std.specs.Prelude.{slice_get}
use Rattle.wt_tiles.specs.Tables.{balances}
use Rattle.wt_tiles.proofs.bracket.balance_table.Given as goal

abbrev pub invariant-loop-left : goal.invariant-loop-left
invariant-loop-left l = record {
  size : length l.table ≡ l.left + 1;
  known : (k : ℕ) → k ≤ l.left → slice_get l.table k ≡ Some (balances (drop (length l.glyphs - k) l.glyphs));
}
