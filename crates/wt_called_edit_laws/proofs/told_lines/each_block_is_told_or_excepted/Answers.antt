use Rattle.wt_called_edit_laws.proofs.AllTold.Complete.{all_blocks}
use Rattle.wt_called_edit_laws.proofs.told_lines.each_block_is_told_or_excepted.Goals as goal

pub returns : goal.returns
returns c = record { all = all_blocks }
