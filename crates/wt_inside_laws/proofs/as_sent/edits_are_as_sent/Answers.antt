use Rattle.wt_inside_laws.proofs.as_sent.edits_are_as_sent.Goals as goal
use Rattle.wt_inside_laws.proofs.MatchedAlike.{edits_as_sent}

pub returns : goal.returns
returns c = edits_as_sent
