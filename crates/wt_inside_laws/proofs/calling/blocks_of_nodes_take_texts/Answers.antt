use Rattle.wt_inside_laws.proofs.NodeBlocks.{nodes_take_texts, paragraph_of_nodes}
use Rattle.wt_inside_laws.proofs.calling.blocks_of_nodes_take_texts.Goals as goal

pub returns-clause-blocks : goal.returns-clause-blocks
returns-clause-blocks c = nodes_take_texts

pub returns-clause-paragraphs : goal.returns-clause-paragraphs
returns-clause-paragraphs c = paragraph_of_nodes
