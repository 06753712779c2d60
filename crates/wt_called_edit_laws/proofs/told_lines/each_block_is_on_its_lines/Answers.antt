use Rattle.wt_called_edit_laws.proofs.AllTold.OnLines.{on_lines}
use Rattle.wt_called_edit_laws.proofs.told_lines.each_block_is_on_its_lines.Goals as goal

pub returns : goal.returns
returns c = record { on = on_lines }
