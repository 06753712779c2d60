use Rattle.wt_page_laws.proofs.Following.{in_two_parts}
use Rattle.wt_page_laws.proofs.kinds.children_come_in_two.Goals as goal

pub returns : goal.returns
returns c = in_two_parts
