use Rattle.wt_called_edit_laws.proofs.Told.FreeNodes.{node_shut, paths_shut}
use Rattle.wt_called_edit_laws.proofs.told_lines.untangled_blocks_are_shut.Goals as goal

pub returns-clause-node : goal.returns-clause-node
returns-clause-node c = node_shut

pub returns-clause-paths : goal.returns-clause-paths
returns-clause-paths c = paths_shut
