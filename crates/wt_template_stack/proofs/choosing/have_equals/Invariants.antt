use Rattle.std.proofs.Common.{◌≡◌, map, take}
use Rattle.std.specs.Prelude.{is_some}
use Rattle.wt_template_stack.proofs.choosing.have_equals.Given as goal

abbrev pub invariant-loop-part : goal.invariant-loop-part
invariant-loop-part l = l.equals ≡ map (λ p. is_some p.equals) (take l.part-index l.later)
