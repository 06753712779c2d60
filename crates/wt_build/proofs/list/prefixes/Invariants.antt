use Rattle.std.proofs.Common.{◌≡◌, take}
use Rattle.wt_page.specs.Lists.{prefixes}
use Rattle.wt_rows.specs.Views.{rows_view}
use Rattle.wt_build.proofs.list.prefixes.Given as goal

abbrev pub invariant-loop-row : goal.invariant-loop-row
invariant-loop-row l = l.out ≡ prefixes (rows_view l.pieces (take l.row-index l.rows))
