use Rattle.std.proofs.Common.{◌≡◌, ◌++◌}
use Rattle.std.specs.Vec.Iter.{into_iter_items}
use Rattle.wt_guards.specs.Views.{all_signs}
use Rattle.wt_escape.proofs.units.push_all.Given as goal

abbrev pub invariant-loop-unit : goal.invariant-loop-unit
invariant-loop-unit l =
    all_signs l.out.items ++ all_signs (into_iter_items l.unit-iterator) ≡ all_signs l.initial.out.items ++ all_signs (into_iter_items l.initial.unit-iterator)
