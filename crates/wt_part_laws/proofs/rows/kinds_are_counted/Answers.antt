use Rattle.wt_part_laws.proofs.Counting.{kinds_counted}
use Rattle.wt_part_laws.proofs.rows.kinds_are_counted.Goals as goal

pub returns : goal.returns
returns c = kinds_counted
