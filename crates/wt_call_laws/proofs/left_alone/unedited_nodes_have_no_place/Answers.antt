use Rattle.wt_call_laws.proofs.Alone.{unedited_untouched}
use Rattle.wt_call_laws.proofs.left_alone.unedited_nodes_have_no_place.Goals as goal

pub returns : goal.returns
returns c = unedited_untouched
