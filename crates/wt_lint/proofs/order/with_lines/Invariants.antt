use Rattle.std.proofs.Common.{◌≡◌, ◌++◌, length, map}
use Rattle.wt_lint.specs.Cursors.{IsAt}
use Rattle.wt_lint.specs.Found.{each}
use Rattle.wt_lint.specs.Lines.{as_located, located}
use Rattle.wt_lint.proofs.order.with_lines.Given as goal

abbrev pub invariant-loop-spot : goal.invariant-loop-spot
invariant-loop-spot l = record {
  done : map as_located l.findings ++ map (located l.page) (each l.spots.keys) ≡ map (located l.page) (each l.fn.spots.keys);
  at : IsAt l.page l.cursor.at l.cursor;
}

abbrev pub decreases-loop-spot : goal.decreases-loop-spot
decreases-loop-spot l = length l.spots.keys
