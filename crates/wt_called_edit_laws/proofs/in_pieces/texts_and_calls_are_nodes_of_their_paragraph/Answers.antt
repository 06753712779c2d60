use Rattle.wt_called_edit_laws.proofs.Whole.TextAndCalls.{pieced, texts_beside}
use Rattle.wt_called_edit_laws.proofs.Whole.CallsApart.{apart_meet}
use Rattle.wt_called_edit_laws.proofs.in_pieces.texts_and_calls_are_nodes_of_their_paragraph.Goals as goal

pub returns-clause-pieces : goal.returns-clause-pieces
returns-clause-pieces c = pieced

pub returns-clause-nodes : goal.returns-clause-nodes
returns-clause-nodes c = texts_beside

pub returns-clause-apart : goal.returns-clause-apart
returns-clause-apart c = apart_meet
