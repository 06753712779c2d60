use Rattle.wt_quotes.proofs.Odds.{at_most_one, not_both_odd}
use Rattle.wt_quotes.proofs.laws.one_run_is_exchanged.Goals as goal

pub returns-clause-one : goal.returns-clause-one
returns-clause-one c = at_most_one c.args.chunks.now

pub returns-clause-even : goal.returns-clause-even
returns-clause-even c = not_both_odd c.args.chunks.now
