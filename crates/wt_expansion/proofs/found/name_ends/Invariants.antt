use Rattle.std.proofs.Common.{◌≡◌, map, take}
use Rattle.wt_braces.specs.Views.{part_of}
use Rattle.wt_expansion.proofs.found.name_ends.Given as goal

abbrev pub invariant-loop-part : goal.invariant-loop-part
invariant-loop-part l = l.ends ≡ map (λ p. p.equals_at) (map part_of (take l.part-index l.parts))
