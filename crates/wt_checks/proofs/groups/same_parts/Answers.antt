use Rattle.wt_checks.proofs.Signs.{parts_long}
use Rattle.wt_checks.proofs.groups.same_parts.Goals as goal

pub returns-then-written-read : goal.returns-then-written-read
returns-then-written-read c = parts_long c.args.written.now c.args.read.now c.if-written-read.true
