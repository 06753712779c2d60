use Rattle.wt_context.proofs.NestedContexts.{contexts_are, contexts_only}
use Rattle.wt_context.proofs.laws.contexts_nest.Goals as goal

pub returns-clause-are : goal.returns-clause-are
returns-clause-are c = contexts_are

pub returns-clause-only : goal.returns-clause-only
returns-clause-only c = contexts_only
