use Rattle.wt_lines.proofs.LineLaws.{lines_are, lines_only}
use Rattle.wt_lines.proofs.laws.one_split.Goals as goal

pub returns-clause-are : goal.returns-clause-are
returns-clause-are c = lines_are

pub returns-clause-only : goal.returns-clause-only
returns-clause-only c = lines_only
