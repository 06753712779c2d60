use Rattle.wt_page.proofs.HeldBody.{held_meaning, sources_meaning}
use Rattle.wt_page.proofs.laws.meaning_holds_its_items.Goals as goal

pub returns-clause-items : goal.returns-clause-items
returns-clause-items c = held_meaning

pub returns-clause-source : goal.returns-clause-source
returns-clause-source c = sources_meaning
