use Rattle.wt_difference.proofs.Remarks.{marks_alone, groups_free, none_marked}
use Rattle.wt_difference.proofs.laws.marks_alone.Goals as goal

pub returns : goal.returns
returns c = record { same = marks_alone; groups = groups_free; none = none_marked }
