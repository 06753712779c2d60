use Rattle.wt_called_edit_laws.proofs.AllTold.CallingTogether.{lines_together}
use Rattle.wt_called_edit_laws.proofs.told_lines.blocks_are_on_their_lines_together.Goals as goal

pub returns : goal.returns
returns c = record { together = lines_together }
