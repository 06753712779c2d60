use Rattle.wt_called_edit_laws.proofs.TilesStand.{blocks_stand}
use Rattle.wt_called_edit_laws.proofs.edited_blocks_say_where_they_are.Goals as goal

pub returns : goal.returns
returns c page from to ss = blocks_stand page from to ss
