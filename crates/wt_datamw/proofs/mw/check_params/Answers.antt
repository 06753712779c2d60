use Rattle.std.proofs.Common.{arith}
use Rattle.wt_datamw.specs.MwValues.{IsParam}
use Rattle.wt_datamw.proofs.Each.{one_more}
use Rattle.wt_datamw.proofs.mw.check_params.Goals as goal

pub returns : goal.returns
returns c = λ k d below. c.loop-name.invariant k d (omega arith)

pub loop-name-preserved : goal.loop-name-preserved
loop-name-preserved c =
    one_more IsParam c.args.params.now c.loop-name.name-index c.loop-name-item.result c.loop-name.invariant (omega arith) c.loop-name-item.is c.check_param.ensures
