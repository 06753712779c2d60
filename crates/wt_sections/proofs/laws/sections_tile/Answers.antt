use Rattle.wt_sections.proofs.Tiles.{tiled}
use Rattle.wt_sections.proofs.laws.sections_tile.Goals as goal

pub returns : goal.returns
returns c = tiled
