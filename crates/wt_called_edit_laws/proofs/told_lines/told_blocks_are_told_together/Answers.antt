use Rattle.wt_called_edit_laws.proofs.AllTold.AllAlone.{all_alone}
use Rattle.wt_called_edit_laws.proofs.told_lines.told_blocks_are_told_together.Goals as goal

pub returns : goal.returns
returns c = record { all = all_alone }
