use Rattle.wt_program.proofs.EditCalls.{calls_take_edits}
use Rattle.wt_program.proofs.laws.calls_take_text_edits.Goals as goal

pub returns : goal.returns
returns c = calls_take_edits
