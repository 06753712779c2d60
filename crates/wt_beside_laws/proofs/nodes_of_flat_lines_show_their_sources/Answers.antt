use Rattle.wt_beside_laws.proofs.BlockSigns.{block_shows}
use Rattle.wt_beside_laws.proofs.nodes_of_flat_lines_show_their_sources.Goals as goal

pub returns : goal.returns
returns c = block_shows
