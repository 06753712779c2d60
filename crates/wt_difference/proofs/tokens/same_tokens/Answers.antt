use Rattle.wt_difference.proofs.Gathered.{tokens_long}
use Rattle.wt_difference.proofs.tokens.same_tokens.Goals as goal

pub returns-then-old-new : goal.returns-then-old-new
returns-then-old-new c = tokens_long c.args.old.now c.args.new.now c.if-old-new.true
