use Rattle.wt_inside_laws.proofs.insides.retyped_blocks_are_edited.Goals as goal
use Rattle.wt_inside_laws.proofs.OwnEdits.{standing_edit}

pub returns : goal.returns
returns c = standing_edit
