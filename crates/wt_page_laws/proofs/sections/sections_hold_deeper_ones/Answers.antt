use Rattle.wt_page_laws.proofs.Levels.{deeper}
use Rattle.wt_page_laws.proofs.sections.sections_hold_deeper_ones.Goals as goal

pub returns : goal.returns
returns c = deeper
