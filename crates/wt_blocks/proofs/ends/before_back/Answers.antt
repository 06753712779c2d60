use Rattle.wt_lines.specs.Signs.{right}
use Rattle.wt_blocks.proofs.Cuts.{one_further}
use Rattle.wt_blocks.proofs.ends.before_back.Goals as goal

pub loop-i-preserved : goal.loop-i-preserved
loop-i-preserved c = one_further (right c.args.signs) (right c.loop-i.rest) (right c.in-Some.before) c.loop-i.i _ c.in-Some.ensures c.loop-i.invariant
