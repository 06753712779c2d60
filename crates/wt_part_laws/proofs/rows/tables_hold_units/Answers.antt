use Rattle.wt_part_laws.proofs.UnitCuts.{holds_units}
use Rattle.wt_part_laws.proofs.rows.tables_hold_units.Goals as goal

pub returns : goal.returns
returns c = holds_units
