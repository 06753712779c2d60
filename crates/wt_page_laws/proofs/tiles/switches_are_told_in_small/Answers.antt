use Rattle.wt_page_laws.proofs.Switches.{is_told}
use Rattle.wt_page_laws.proofs.tiles.switches_are_told_in_small.Goals as goal

pub returns : goal.returns
returns c = is_told
