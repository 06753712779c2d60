use Rattle.wt_datamw.specs.MwValues.{IsPart}
use Rattle.wt_datamw.proofs.Each.{First}
use Rattle.wt_datamw.proofs.mw.check_parts.Given as goal

abbrev pub invariant-loop-part : goal.invariant-loop-part
invariant-loop-part l = First IsPart l.parts l.part-index
