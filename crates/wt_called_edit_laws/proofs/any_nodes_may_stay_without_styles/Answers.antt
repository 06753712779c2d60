-- It is said of what a block with styles may be sent.
use Rattle.wt_called_edit_laws.proofs.BlocksMade.{flat_fits}
use Rattle.wt_called_edit_laws.proofs.any_nodes_may_stay_without_styles.Goals as goal

pub returns : goal.returns
returns c = flat_fits
