use Rattle.std.proofs.Common.{◌<◌, length}
use Rattle.wt_span.specs.Items.{items}
use Rattle.wt_page.specs.Rows.{rows}
use Rattle.wt_rows.specs.Unread.{left}
use Rattle.wt_rows.specs.Portions.{IsPortion, IsPortionOf}
use Rattle.wt_rows.proofs.portion.next_portion.Given as goal

abbrev pub invariant-loop-alloc : goal.invariant-loop-alloc
invariant-loop-alloc l = record {
  portion : IsPortion l.portion;
  all : IsPortionOf (rows (items (left l.rest))) l.portion;
  fewer : length (items (left l.portion.rest)) < length (items (left l.rest));
}

abbrev pub decreases-loop-alloc : goal.decreases-loop-alloc
decreases-loop-alloc l = length (items (left l.portion.rest))
