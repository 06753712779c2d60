use Rattle.wt_page_laws.proofs.FirstAttributes.{are_first}
use Rattle.wt_page_laws.proofs.tiles.attributes_are_the_first_of_their_names.Goals as goal

pub returns : goal.returns
returns c = are_first
