use Rattle.std.proofs.Common.{◌≡◌, ◌++◌, length}
use Rattle.wt_lines.specs.Signs.{left}
use Rattle.wt_tables.specs.Views.{numbers}
use Rattle.wt_build.specs.SeenSigns.{seen_by}
use Rattle.wt_build.proofs.colon.push_signs.Given as goal

abbrev pub invariant-loop-sign : goal.invariant-loop-sign
invariant-loop-sign l = numbers l.out ++ seen_by l.bare (left l.rest) ≡ numbers l.fn.out ++ seen_by l.bare (left l.signs)

abbrev pub decreases-loop-sign : goal.decreases-loop-sign
decreases-loop-sign l = length (left l.rest)
