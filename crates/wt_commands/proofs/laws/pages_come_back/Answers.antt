use Rattle.wt_commands.proofs.GivenBackLaws.{all_given_back}
use Rattle.wt_commands.proofs.laws.pages_come_back.Goals as goal

pub returns : goal.returns
returns c = all_given_back
