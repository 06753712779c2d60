use Rattle.std.proofs.Common.{arith}
use Rattle.std.proofs.lemmas.Grind.{common_steps}
use Rattle.wt_difference.proofs.Gathered.{tokens_views}
use Rattle.wt_difference.proofs.tokens.+tokens.Goals as goal

pub push_all_tokens-returns : goal.push_all_tokens-returns
push_all_tokens-returns t c = rw (tokens_views c.args.nodes.now) (grind (arith, common_steps))
