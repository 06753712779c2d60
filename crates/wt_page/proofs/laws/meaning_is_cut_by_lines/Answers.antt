use Rattle.wt_page.proofs.HeldBody.{is_meaning, only_meaning}
use Rattle.wt_page.proofs.laws.meaning_is_cut_by_lines.Goals as goal

pub returns-clause-are : goal.returns-clause-are
returns-clause-are c = is_meaning

pub returns-clause-only : goal.returns-clause-only
returns-clause-only c = only_meaning
