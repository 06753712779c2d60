use Rattle.wt_page_laws.proofs.NodeFields.{no_attributes, no_mark, no_data}
use Rattle.wt_page_laws.proofs.nodes.plain_nodes_have_nothing_more.Goals as goal

pub returns-clause-attributes : goal.returns-clause-attributes
returns-clause-attributes c = no_attributes

pub returns-clause-mark : goal.returns-clause-mark
returns-clause-mark c = no_mark

pub returns-clause-data : goal.returns-clause-data
returns-clause-data c = no_data
