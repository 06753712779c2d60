use Rattle.wt_beside_laws.proofs.FlatContents.{flat_content}
use Rattle.wt_beside_laws.proofs.texts_beside_nodes_of_the_page_are_flat.Goals as goal

pub returns : goal.returns
returns c = flat_content
