use Rattle.std.proofs.Common.{◌≡◌, true, length}
use Rattle.wt_attributes.specs.Attributes.{value_of, readings}
use Rattle.wt_attributes.specs.Views.{left}
use Rattle.wt_attributes.proofs.reader.first_value.Given as goal

abbrev pub invariant-loop-attribute : goal.invariant-loop-attribute
invariant-loop-attribute l = value_of l.name (left l.scan) ≡ value_of l.name (readings true 0 l.text)

abbrev pub decreases-loop-attribute : goal.decreases-loop-attribute
decreases-loop-attribute l = length (left l.scan)
