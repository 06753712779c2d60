use Rattle.wt_selser.proofs.Answering.{unmarked_stands}
use Rattle.wt_selser.proofs.laws.unmarked_edit_is_the_page.Goals as goal

pub returns : goal.returns
returns c = unmarked_stands
