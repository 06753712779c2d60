use Rattle.wt_commands.proofs.RefusalLines.{checked_parts}
use Rattle.wt_commands.proofs.refusal.checked_line.Goals as goal

pub returns : goal.returns
returns c = rw (checked_parts c.args.check, ← c.check_name.ensures, ← c.check_node.ensures, ← c.get.ensures) c.format.ensures.ok
