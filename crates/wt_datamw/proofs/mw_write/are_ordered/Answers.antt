use Rattle.std.proofs.Common.{arith}
use Rattle.std.proofs.lemmas.List.{length-map}
use Rattle.wt_datamw.proofs.MwBack.{Param, names}
use Rattle.wt_datamw.proofs.Ordered.{next_in_order, all_in_order}
use Rattle.wt_datamw.proofs.mw_write.are_ordered.Goals as goal

pub loop-i-preserved : goal.loop-i-preserved
loop-i-preserved c =
    next_in_order c.args.params.now c.loop-i.i c.index-params-i.result c.index-params-i-in-loop-i.result c.precedes.result c.loop-i.invariant (omega arith)
    (omega arith) c.precedes.ensures c.if-not-precedes.false

pub returns : goal.returns
returns c =
    λ _. all_in_order (names c.args.params.now) c.loop-i.i c.loop-i.invariant (omega (arith, length-map c.args.params.now (λ (p : Param). p.0)))
