use Rattle.wt_span.specs.Items.{items}
use Rattle.wt_rows.specs.Unread.{left}
use Rattle.wt_rows.specs.Building.{made_rows}
use Rattle.wt_rows.proofs.FewRows.{portion_kept}
use Rattle.wt_rows.proofs.Portions.{portion_first}
use Rattle.wt_rows.proofs.portion.next_portion.Goals as goal

pub returns-clause-kept : goal.returns-clause-kept
returns-clause-kept c =
    portion_kept (made_rows c.loop-alloc.portion.made) (made_rows c.in_ok-rows.rows) c.loop-alloc.portion.tables (items (left c.args.rest))
    (left c.loop-alloc.portion.rest) c.in_ok-rows.ensures.rows c.loop-alloc.invariant.all

pub returns-clause-first : goal.returns-clause-first
returns-clause-first c =
    portion_first (made_rows c.loop-alloc.portion.made) (made_rows c.in_ok-rows.rows) c.loop-alloc.portion.tables (items (left c.args.rest))
    (left c.loop-alloc.portion.rest) c.in_ok-rows.ensures.rows c.loop-alloc.invariant.portion.count c.loop-alloc.invariant.all
    (c.goes_on.ensures.end c.loop-alloc-test.false)
