use Rattle.wt_part_laws.proofs.UnitCuts.{units_are, units_only}
use Rattle.wt_part_laws.proofs.rows.units_are_counted.Goals as goal

pub returns-clause-are : goal.returns-clause-are
returns-clause-are c = units_are

pub returns-clause-only : goal.returns-clause-only
returns-clause-only c = units_only
