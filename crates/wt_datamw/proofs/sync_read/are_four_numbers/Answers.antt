use Rattle.wt_datamw.proofs.Shapes.{not_four_below, not_four_above}
use Rattle.wt_datamw.proofs.sync_read.are_four_numbers.Goals as goal

pub returns-in_default : goal.returns-in_default
returns-in_default c = (not_four_below c.args.values.now c.in_default.len_below).0

pub returns-in_default-2 : goal.returns-in_default-2
returns-in_default-2 c = (not_four_above c.args.values.now c.in_default.len_at_least).0
