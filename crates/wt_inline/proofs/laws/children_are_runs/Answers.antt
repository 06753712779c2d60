use Rattle.wt_inline.proofs.HeldLaws.{are_children, only_children}
use Rattle.wt_inline.proofs.laws.children_are_runs.Goals as goal

pub returns-clause-are : goal.returns-clause-are
returns-clause-are c = are_children

pub returns-clause-only : goal.returns-clause-only
returns-clause-only c = only_children
