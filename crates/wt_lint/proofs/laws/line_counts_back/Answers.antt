use Rattle.wt_lint.proofs.LinesBack.{counts_back}
use Rattle.wt_lint.proofs.laws.line_counts_back.Goals as goal

pub returns : goal.returns
returns c = counts_back
