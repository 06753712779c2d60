use Rattle.wt_tables.proofs.PartLines.{table_joined}
use Rattle.wt_tables.proofs.laws.parts_join.Goals as goal

pub returns : goal.returns
returns g c = table_joined
