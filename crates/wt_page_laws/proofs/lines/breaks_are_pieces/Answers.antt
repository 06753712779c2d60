use Rattle.wt_page_laws.proofs.Breaks.{stand_alone}
use Rattle.wt_page_laws.proofs.lines.breaks_are_pieces.Goals as goal

pub returns : goal.returns
returns c = stand_alone
