use Rattle.wt_beside_laws.proofs.SentPieces.{stays_sent, same_numbers}
use Rattle.wt_beside_laws.proofs.nodes_that_stay_are_sent.Goals as goal

pub returns-clause-sent : goal.returns-clause-sent
returns-clause-sent c = stays_sent

pub returns-clause-numbers : goal.returns-clause-numbers
returns-clause-numbers c = same_numbers
