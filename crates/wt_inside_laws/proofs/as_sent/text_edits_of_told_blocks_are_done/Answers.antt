use Rattle.wt_inside_laws.proofs.ToldEdits.{lined_edit_done}
use Rattle.wt_inside_laws.proofs.as_sent.text_edits_of_told_blocks_are_done.Goals as goal

pub returns : goal.returns
returns c = lined_edit_done
