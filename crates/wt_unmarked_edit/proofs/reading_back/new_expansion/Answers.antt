use Rattle.wt_expansion.proofs.KnownLaws.{free_at_first, holds_at_first}
use Rattle.wt_unmarked_edit.proofs.reading_back.new_expansion.Goals as goal

pub returns-clause-known : goal.returns-clause-known
returns-clause-known c = holds_at_first c.new-expansion.result c.new-expansion.ensures.store c.new-expansion.ensures.names

pub returns-clause-free : goal.returns-clause-free
returns-clause-free c = λ pages. free_at_first pages c.new-expansion.result c.new-expansion.ensures.store c.new-expansion.ensures.names
