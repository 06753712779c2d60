use Rattle.std.proofs.Common.{false, drop, map}
use Rattle.wt_span.specs.Braces.{parts_between}
use Rattle.wt_braces.specs.Views.{sign_at}
use Rattle.wt_braces.specs.PartRows.{Reads}
use Rattle.wt_braces.proofs.parts.parts_between.Given as goal

abbrev pub invariant-loop-sign : goal.invariant-loop-sign
invariant-loop-sign l = Reads l.parts l.to (parts_between false l.fn.from l.fn.to (map sign_at l.fn.signs)) (map sign_at (drop l.sign-index l.signs))
