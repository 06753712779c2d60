use Rattle.std.proofs.Common.{true}
use Rattle.wt_attributes.proofs.Orders.{readings_are, readings_only}
use Rattle.wt_attributes.proofs.laws.one_reading.Goals as goal

pub returns-clause-are : goal.returns-clause-are
returns-clause-are c = λ bs. readings_are true 0 bs

pub returns-clause-only : goal.returns-clause-only
returns-clause-only c = readings_only true
