use Rattle.wt_call_laws.proofs.Alone.{blocks_untouched}
use Rattle.wt_call_laws.proofs.left_alone.unedited_blocks_have_no_place.Goals as goal

pub returns : goal.returns
returns c = blocks_untouched
