use Rattle.wt_called_edit_laws.proofs.Headings.CallsApart.{heading_apart}
use Rattle.wt_called_edit_laws.proofs.Headings.TextAndCalls.{heading_pieced, heading_beside}
use Rattle.wt_called_edit_laws.proofs.in_pieces.texts_and_calls_are_nodes_of_their_heading.Goals as goal

pub returns-clause-pieces : goal.returns-clause-pieces
returns-clause-pieces c = heading_pieced

pub returns-clause-nodes : goal.returns-clause-nodes
returns-clause-nodes c = heading_beside

pub returns-clause-apart : goal.returns-clause-apart
returns-clause-apart c = heading_apart
