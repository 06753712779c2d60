use Rattle.wt_selser.proofs.EditChains.{slices_apart, edit_stands}
use Rattle.wt_selser.proofs.laws.edit_is_a_splice.Goals as goal

pub returns-clause-apart : goal.returns-clause-apart
returns-clause-apart c = slices_apart

pub returns-clause-stands : goal.returns-clause-stands
returns-clause-stands c = edit_stands
