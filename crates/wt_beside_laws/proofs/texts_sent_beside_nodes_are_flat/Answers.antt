use Rattle.wt_beside_laws.proofs.BlockSigns.{sent_content}
use Rattle.wt_beside_laws.proofs.texts_sent_beside_nodes_are_flat.Goals as goal

pub returns : goal.returns
returns c = sent_content
