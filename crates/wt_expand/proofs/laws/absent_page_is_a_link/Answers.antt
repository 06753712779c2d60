use Rattle.wt_expand.proofs.Absent.{absent_page}
use Rattle.wt_expand.proofs.laws.absent_page_is_a_link.Goals as goal

pub returns : goal.returns
returns c = absent_page
