use Rattle.wt_expand.proofs.TextLaws.{text_trimmed, items_trimmed}
use Rattle.wt_expand.proofs.laws.trimmed_ends.Goals as goal

pub returns-clause-texts : goal.returns-clause-texts
returns-clause-texts c = text_trimmed

pub returns-clause-items : goal.returns-clause-items
returns-clause-items c = items_trimmed
