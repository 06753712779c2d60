use Rattle.wt_beside_laws.proofs.BlockSigns.{flat_block, block_nodes}
use Rattle.wt_beside_laws.proofs.blocks_of_flat_lines_have_their_nodes.Goals as goal

pub returns-clause-flat : goal.returns-clause-flat
returns-clause-flat c = flat_block

pub returns-clause-nodes : goal.returns-clause-nodes
returns-clause-nodes c = block_nodes
