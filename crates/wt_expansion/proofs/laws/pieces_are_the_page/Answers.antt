use Rattle.wt_expansion.proofs.PieceLaws.{page_is_items, page_pieces}
use Rattle.wt_expansion.proofs.laws.pieces_are_the_page.Goals as goal

pub returns-clause-owed : goal.returns-clause-owed
returns-clause-owed c = page_pieces

pub returns-clause-same : goal.returns-clause-same
returns-clause-same c = page_is_items
