use Rattle.wt_typed_blocks.proofs.ComingShows.{body_shows}
use Rattle.wt_typed_blocks.proofs.typed.blocks_that_come_and_go_are_shown.Goals as goal

pub returns : goal.returns
returns c = body_shows
