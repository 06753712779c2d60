use Rattle.wt_commands.proofs.RefusalLines.{unfit_parts}
use Rattle.wt_commands.proofs.refusal.unfit_line.Goals as goal

pub returns : goal.returns
returns c = rw (unfit_parts c.args.element c.args.why, ← c.fit_why.ensures) c.format.ensures.ok
