use Rattle.wt_called_edit_laws.proofs.CallingGroups.{calling_groups, calling_nodes, calling_outside}
use Rattle.wt_called_edit_laws.proofs.groups_stay_round_blocks_that_call.Goals as goal

pub returns-clause-stay : goal.returns-clause-stay
returns-clause-stay c = calling_groups

pub returns-clause-nodes : goal.returns-clause-nodes
returns-clause-nodes c = calling_nodes

pub returns-clause-again : goal.returns-clause-again
returns-clause-again c = calling_outside
