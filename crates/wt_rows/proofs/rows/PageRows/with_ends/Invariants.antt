use Rattle.std.proofs.Common.{◌≡◌, ◌++◌, replicate}
use Rattle.wt_page.specs.Rows.{unwritten_end}
use Rattle.wt_rows.specs.Building.{ArePageRows, made_rows}
use Rattle.wt_rows.proofs.rows.PageRows.with_ends.Given as goal

abbrev pub invariant-loop-left : goal.invariant-loop-left
invariant-loop-left l = record {
  made : ArePageRows l.made;
  rest : made_rows l.made ++ replicate l.left unwritten_end ≡ made_rows l.initial.made ++ replicate l.tables unwritten_end;
}

abbrev pub decreases-loop-left : goal.decreases-loop-left
decreases-loop-left l = l.left
