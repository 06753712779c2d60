use Rattle.std.proofs.Common.{map}
use Rattle.wt_datamw.proofs.Ordered.{FirstInOrder}
use Rattle.wt_datamw.proofs.mw_write.are_ordered.Given as goal

abbrev pub invariant-loop-i : goal.invariant-loop-i
invariant-loop-i l = FirstInOrder (map (λ p. p.0) l.params) l.i
