use Rattle.wt_commands.proofs.UnchangedLaws.{stays_unchanged}
use Rattle.wt_commands.proofs.laws.unchanged_page_stays.Goals as goal

pub returns : goal.returns
returns c = stays_unchanged
