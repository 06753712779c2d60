use Rattle.wt_inside_laws.proofs.EditsWithCalls.{marked_difference}
use Rattle.wt_inside_laws.proofs.OrdinaryEdits.{difference_done, difference_written}
use Rattle.wt_inside_laws.proofs.as_sent.text_edits_without_marks_are_done.Goals as goal

pub returns : goal.returns
returns c = record { tree = difference_done; html = difference_written; calls = marked_difference }
