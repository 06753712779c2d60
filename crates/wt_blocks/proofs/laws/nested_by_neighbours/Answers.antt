use Rattle.std.proofs.Common.{sym, ◌∙◌}
use Rattle.wt_blocks.specs.Nesting.{nested}
use Rattle.wt_blocks.proofs.Begun.{nested_begun}
use Rattle.wt_blocks.proofs.SameRows.{same_lists}
use Rattle.wt_blocks.proofs.laws.nested_by_neighbours.Goals as goal

pub returns-clause-are : goal.returns-clause-are
returns-clause-are c = nested_begun

pub returns-clause-only : goal.returns-clause-only
returns-clause-only c = λ ts ps h e. same_lists ts (nested ps) (e ∙ sym (nested_begun ps h))
