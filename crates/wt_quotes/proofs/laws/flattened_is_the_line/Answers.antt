use Rattle.wt_quotes.proofs.Flattening.{flattened}
use Rattle.wt_quotes.proofs.laws.flattened_is_the_line.Goals as goal

pub returns : goal.returns
returns c = flattened c.args.chunks.now
