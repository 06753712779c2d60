use Rattle.std.proofs.Common.{◌≡◌}
use Rattle.std.specs.List.{list_all}
use Rattle.serde_json.specs.View.{view, members_view}
use Rattle.wt_datamw.specs.MwRead.{all_values, is_source}
use Rattle.wt_datamw.proofs.mw_shape.are_sources.Given as goal

-- the values that are left decide
abbrev pub invariant-loop-value : goal.invariant-loop-value
invariant-loop-value l = record {
  can : (goal.iterator-loop-value).can_next l.value-iterator;
  finite : (goal.iterator-loop-value).is_finite l.value-iterator;
  left : all_values is_source (members_view l.map.entries) ≡ list_all (λ v. is_source (view v)) l.value-iterator;
}
