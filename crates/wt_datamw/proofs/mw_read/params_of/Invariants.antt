use Rattle.std.proofs.Common.{◌≡◌, ◌++◌}
use Rattle.serde_json.specs.View.{members_view}
use Rattle.wt_datamw.specs.MwRead.{params_of}
use Rattle.wt_datamw.proofs.mw_read.params_of.Given as goal

-- what is done and what is left join to the whole
abbrev pub invariant-loop-name : goal.invariant-loop-name
invariant-loop-name l = record {
  can : (goal.iterator-loop-name).can_next l.name-iterator;
  finite : (goal.iterator-loop-name).is_finite l.name-iterator;
  joins : l.params ++ params_of (members_view l.name-iterator) ≡ params_of (members_view l.map.entries);
}
