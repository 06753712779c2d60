use Rattle.wt_inside_laws.proofs.EditsWithCalls.{marked_done, marked_written, marked_local, pieces_editable, calls_editable}
use Rattle.wt_inside_laws.proofs.as_sent.text_edits_with_calls_are_done.Goals as goal

pub returns : goal.returns
returns c = record { tree = marked_done; html = marked_written; local = marked_local; pieces = pieces_editable; calls = calls_editable }
