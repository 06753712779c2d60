use Rattle.wt_inline.proofs.HeldLaws.{sources_opened}
use Rattle.wt_inline.proofs.laws.opened_items_keep_their_source.Goals as goal

pub returns : goal.returns
returns c = sources_opened
