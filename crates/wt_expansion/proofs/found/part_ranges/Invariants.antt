use Rattle.std.proofs.Common.{◌≡◌, map, take}
use Rattle.wt_span.specs.Origins.{span_of}
use Rattle.wt_braces.specs.Views.{part_of}
use Rattle.wt_expansion.proofs.found.part_ranges.Given as goal

abbrev pub invariant-loop-part : goal.invariant-loop-part
invariant-loop-part l = map span_of l.ranges ≡ map (λ p. (p.from, p.to)) (map part_of (take l.part-index l.parts))
