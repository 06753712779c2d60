use Rattle.wt_inside_laws.proofs.TextAndCallBlocks.{takes_texts, paragraph_takes}
use Rattle.wt_inside_laws.proofs.calling.blocks_of_texts_and_calls_take_texts.Goals as goal

pub returns-clause-blocks : goal.returns-clause-blocks
returns-clause-blocks c = takes_texts

pub returns-clause-paragraphs : goal.returns-clause-paragraphs
returns-clause-paragraphs c = paragraph_takes
