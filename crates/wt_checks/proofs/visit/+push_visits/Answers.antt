use Rattle.std.proofs.Common.{arith, sym}
use Rattle.std.proofs.lemmas.Grind.{common_steps}
use Rattle.wt_checks.proofs.Visits.{placed_out}
use Rattle.wt_checks.proofs.visit.+push_visits.Goals as goal

pub returns : goal.returns
returns t c =
    rw (
      placed_out c.args.parent c.args.in_content c.args.node.now,
      sym c.parent_below-below.ensures,
      sym c.is_inside-inside.ensures,
      sym c.as_slice-child-items.ensures,
    ) (grind (arith, common_steps))
