use Rattle.wt_tiles.proofs.Fits.{tile_fits}
use Rattle.wt_tiles.proofs.laws.parts_have_edges.Goals as goal

pub returns : goal.returns
returns c = λ cx after gs w e. let f = tile_fits cx after gs w e in f.edges
