use Rattle.std.proofs.Common.{◌≡◌, take, map}
use Rattle.serde_json.specs.View.{view}
use Rattle.wt_datamw.specs.MwRead.{part_of}
use Rattle.wt_datamw.proofs.mw_read.parts_of.Given as goal

abbrev pub invariant-loop-value : goal.invariant-loop-value
invariant-loop-value l = l.parts ≡ map (λ v. part_of (view v)) (take l.value-index l.values)
