use Rattle.wt_called_edit_laws.proofs.AllTold.CalmCalls.{words_excepted}
use Rattle.wt_called_edit_laws.proofs.AllTold.CalmPages.{calm_excepted}
use Rattle.wt_called_edit_laws.proofs.told_lines.calls_except_no_block_where_there_are_none.Goals as goal

pub returns : goal.returns
returns c = record { calm = calm_excepted; words = words_excepted }
