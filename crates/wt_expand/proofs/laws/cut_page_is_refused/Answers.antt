use Rattle.wt_expand.proofs.TextLaws.{cut_page_refused}
use Rattle.wt_expand.proofs.laws.cut_page_is_refused.Goals as goal

pub returns : goal.returns
returns c = cut_page_refused
