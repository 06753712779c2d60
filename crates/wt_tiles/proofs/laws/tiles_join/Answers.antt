use Rattle.wt_tiles.proofs.Joining.{tiles_join}
use Rattle.wt_tiles.proofs.laws.tiles_join.Goals as goal

pub returns : goal.returns
returns c = tiles_join
