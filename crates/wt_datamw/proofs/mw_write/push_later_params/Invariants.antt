use Rattle.std.proofs.Common.{◌≡◌, ◌++◌, take}
use Rattle.std.specs.Prelude.{flat_map}
use Rattle.wt_datamw.specs.MwPieces.{later_param}
use Rattle.wt_datamw.proofs.mw_write.push_later_params.Given as goal

abbrev pub invariant-loop-name : goal.invariant-loop-name
invariant-loop-name l = l.out.items ≡ l.initial.out.items ++ flat_map later_param (take l.name-index l.params)
