use Rattle.wt_lines.proofs.FullLines.{same_lines}
use Rattle.wt_lines.proofs.laws.one_set_of_lines.Goals as goal

pub returns : goal.returns
returns c = same_lines
