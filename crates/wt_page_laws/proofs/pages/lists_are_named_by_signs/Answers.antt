use Rattle.wt_page_laws.proofs.Named.{lists_named}
use Rattle.wt_page_laws.proofs.pages.lists_are_named_by_signs.Goals as goal

pub returns : goal.returns
returns c = lists_named
