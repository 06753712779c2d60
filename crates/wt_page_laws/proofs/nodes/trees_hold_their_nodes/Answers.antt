use Rattle.wt_page_laws.proofs.NodeFields.{children_of_node, kind_of_node, id_of_node, ranges_of_node}
use Rattle.wt_page_laws.proofs.Rows.{lists_back, trees_back}
use Rattle.wt_page_laws.proofs.nodes.trees_hold_their_nodes.Goals as goal

pub returns-clause-children : goal.returns-clause-children
returns-clause-children c = children_of_node

pub returns-clause-kind : goal.returns-clause-kind
returns-clause-kind c = kind_of_node

pub returns-clause-id : goal.returns-clause-id
returns-clause-id c = id_of_node

pub returns-clause-ranges : goal.returns-clause-ranges
returns-clause-ranges c = ranges_of_node

pub returns-clause-listed : goal.returns-clause-listed
returns-clause-listed c = lists_back

pub returns-clause-trees : goal.returns-clause-trees
returns-clause-trees c = trees_back
