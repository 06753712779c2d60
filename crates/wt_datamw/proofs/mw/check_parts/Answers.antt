use Rattle.std.proofs.Common.{arith}
use Rattle.wt_datamw.specs.MwValues.{IsPart}
use Rattle.wt_datamw.proofs.Each.{one_more}
use Rattle.wt_datamw.proofs.mw.check_parts.Goals as goal

pub loop-part-preserved : goal.loop-part-preserved
loop-part-preserved c =
    one_more IsPart c.args.parts.now c.loop-part.part-index c.part-item.result c.loop-part.invariant (omega arith) c.part-item.is c.check_part.ensures
