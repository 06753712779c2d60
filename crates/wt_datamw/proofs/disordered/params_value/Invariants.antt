use Rattle.std.proofs.Common.{◌≡◌, take}
use Rattle.serde_json.specs.Data.{no_members}
use Rattle.serde_json.specs.View.{members_view}
use Rattle.wt_datamw.specs.Mw.{params_from}
use Rattle.wt_datamw.proofs.disordered.params_value.Given as goal

abbrev pub invariant-loop-name : goal.invariant-loop-name
invariant-loop-name l = members_view l.map.entries ≡ params_from no_members (take l.name-index l.params)
