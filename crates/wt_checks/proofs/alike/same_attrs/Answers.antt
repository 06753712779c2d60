use Rattle.wt_checks.proofs.Alikes.{attrs_long}
use Rattle.wt_checks.proofs.alike.same_attrs.Goals as goal

pub returns-then-a-b : goal.returns-then-a-b
returns-then-a-b c = attrs_long c.args.a.now c.args.b.now c.if-a-b.true
