use Rattle.wt_expand.proofs.PiecePlaces.{pieces_begin, page_is_covered}
use Rattle.wt_expand.proofs.laws.pieces_have_places.Goals as goal

pub returns-clause-begin : goal.returns-clause-begin
returns-clause-begin c = pieces_begin

pub returns-clause-covered : goal.returns-clause-covered
returns-clause-covered c = page_is_covered
