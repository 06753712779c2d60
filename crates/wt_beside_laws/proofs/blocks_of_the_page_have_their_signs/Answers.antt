use Rattle.wt_beside_laws.proofs.OwnSigns.{own_content, own_sent}
use Rattle.wt_beside_laws.proofs.blocks_of_the_page_have_their_signs.Goals as goal

pub returns-clause-signs : goal.returns-clause-signs
returns-clause-signs c = own_content

pub returns-clause-sent : goal.returns-clause-sent
returns-clause-sent c = own_sent
