use Rattle.wt_commands.proofs.RefusalLines.{content_parts}
use Rattle.wt_commands.proofs.refusal.content_line.Goals as goal

pub returns : goal.returns
returns c = rw (content_parts c.args.node c.args.why, ← c.get.ensures, ← c.content_why.ensures) c.format.ensures.ok
