use Rattle.std.proofs.Common.{◌≡◌, map, take}
use Rattle.wt_visible.specs.Tally.{trimmed}
use Rattle.wt_visible.proofs.kept_marks.are_alike.Given as goal

abbrev pub invariant-loop-at : goal.invariant-loop-at
invariant-loop-at l = map trimmed (take l.at l.sources) ≡ map trimmed (take l.at l.others)
