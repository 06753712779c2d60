use Rattle.wt_datamw.specs.MwValues.{IsParam}
use Rattle.wt_datamw.proofs.Each.{First}
use Rattle.wt_datamw.proofs.mw.check_params.Given as goal

abbrev pub invariant-loop-name : goal.invariant-loop-name
invariant-loop-name l = First IsParam l.params l.name-index
