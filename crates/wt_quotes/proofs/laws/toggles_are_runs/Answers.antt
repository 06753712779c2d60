use Rattle.wt_quotes.proofs.Odds.{are_runs}
use Rattle.wt_quotes.proofs.laws.toggles_are_runs.Goals as goal

pub returns : goal.returns
returns c = are_runs c.args.chunks.now
