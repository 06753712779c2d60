use Rattle.wt_names.proofs.Segments.{segments}
use Rattle.wt_names.proofs.laws.steps_are_parts.Goals as goal

pub returns : goal.returns
returns c = segments
