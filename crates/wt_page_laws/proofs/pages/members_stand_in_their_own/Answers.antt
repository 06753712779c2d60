use Rattle.wt_page_laws.proofs.HousedBody.{housed_meaning}
use Rattle.wt_page_laws.proofs.pages.members_stand_in_their_own.Goals as goal

pub returns : goal.returns
returns c = housed_meaning
