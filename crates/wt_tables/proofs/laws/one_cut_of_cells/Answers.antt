use Rattle.wt_tables.proofs.Cuts.{cut_are, cut_only}
use Rattle.wt_tables.proofs.laws.one_cut_of_cells.Goals as goal

pub returns-clause-are : goal.returns-clause-are
returns-clause-are c = cut_are

pub returns-clause-only : goal.returns-clause-only
returns-clause-only c = cut_only
