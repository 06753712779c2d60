use Rattle.wt_page_laws.proofs.Reaches.{gathered_held}
use Rattle.wt_page_laws.proofs.sections.sections_hold_what_follows.Goals as goal

pub returns : goal.returns
returns c = gathered_held
