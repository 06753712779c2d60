use Rattle.wt_page_laws.proofs.Grammar.{brackets_balance as both}
use Rattle.wt_page_laws.proofs.tiles.brackets_balance.Goals as goal

pub returns : goal.returns
returns c = both
