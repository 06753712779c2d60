use Rattle.wt_selser.proofs.Answering.{touches_any}
use Rattle.wt_selser.proofs.tangled_block.is_tangled.Goals as goal

pub returns-then-touches-clause-value : goal.returns-then-touches-clause-value
returns-then-touches-clause-value c =
    touches_any c.args.items.now c.args.page.now c.args.block.now c.touches.result c.touches.ensures.value c.if-touches.true
