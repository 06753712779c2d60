use Rattle.wt_page_laws.proofs.Media.{media_end_balanced as media_end}
use Rattle.wt_page_laws.proofs.tiles.media_end_balanced.Goals as goal

pub returns : goal.returns
returns c = media_end
