use Rattle.std.proofs.Common.{◌≡◌, map, take}
use Rattle.wt_rows.proofs.Straying.{gap_at}
use Rattle.wt_rows.proofs.delimiter.gaps.Given as goal

abbrev pub invariant-loop-row : goal.invariant-loop-row
invariant-loop-row l = l.out.items ≡ map gap_at (take l.row-index l.rows)
