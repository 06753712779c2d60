use Rattle.wt_tree.proofs.Joining.{joined_again, plain_joined}
use Rattle.wt_tree.proofs.laws.joining_once.Goals as goal

pub returns : goal.returns
returns c = record { again = joined_again; plain_view = plain_joined }
