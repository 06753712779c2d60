use Rattle.std.proofs.Common.{◌≡◌, take, true}
use Rattle.std.specs.List.{list_all}
use Rattle.serde_json.specs.View.{view}
use Rattle.wt_datamw.specs.MwRead.{is_part}
use Rattle.wt_datamw.proofs.mw_shape.are_parts.Given as goal

abbrev pub invariant-loop-value : goal.invariant-loop-value
invariant-loop-value l = list_all (λ v. is_part (view v)) (take l.value-index l.values) ≡ true
