use Rattle.std.proofs.Common.{◌≡◌, ◌≤◌, ◌<◌, ◌++◌, ◌-◌, length, drop, map}
use Rattle.std.specs.List.{All}
use Rattle.wt_span.specs.Items.{sign}
use Rattle.wt_tables.specs.Cells.{cells_in, parts}
use Rattle.wt_tables.specs.Views.{numbers, waiting, AreSound, HasSign}
use Rattle.wt_tables.specs.CellViews.{cell_view, IsSoundCell}
use Rattle.wt_tables.proofs.CellSteps.{cells_left}
use Rattle.wt_tables.proofs.cell.read_cells.Given as goal

abbrev pub invariant-loop-at : goal.invariant-loop-at
invariant-loop-at l = record {
  within : l.at ≤ length l.signs;
  signs_are : drop l.at (numbers l.signs) ≡ map sign (waiting l.left);
  sound : AreSound l.left;
  has_sign : l.at < length l.signs → HasSign l.sign_len (drop l.at (numbers l.signs));
  cells_are : map cell_view l.cells ++ cells_left l.header l.by l.sign_len (waiting l.left) ≡ cells_in l.header l.n (parts l.by l.n (waiting l.cursor));
  sound_cells : All IsSoundCell l.cells;
}

abbrev pub decreases-loop-at : goal.decreases-loop-at
decreases-loop-at l = length l.signs - l.at
