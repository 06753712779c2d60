use Rattle.wt_page_laws.proofs.Keys.{key_is}
use Rattle.wt_page_laws.proofs.tiles.keys_are_behind_the_first_pipe.Goals as goal

pub returns : goal.returns
returns c = key_is
