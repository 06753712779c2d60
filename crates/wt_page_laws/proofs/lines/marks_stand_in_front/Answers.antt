use Rattle.wt_page_laws.proofs.Marks.{in_front_is}
use Rattle.wt_page_laws.proofs.lines.marks_stand_in_front.Goals as goal

pub returns : goal.returns
returns c = in_front_is
