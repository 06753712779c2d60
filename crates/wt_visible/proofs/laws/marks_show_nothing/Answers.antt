use Rattle.wt_visible.proofs.MarksShowNothing.{marks_unseen}
use Rattle.wt_visible.proofs.laws.marks_show_nothing.Goals as goal

pub returns : goal.returns
returns c = marks_unseen
