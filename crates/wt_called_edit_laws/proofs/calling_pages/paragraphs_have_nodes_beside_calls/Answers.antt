use Rattle.wt_called_edit_laws.proofs.Whole.Uncalled.{whole_uncalled}
use Rattle.wt_called_edit_laws.proofs.calling_pages.paragraphs_have_nodes_beside_calls.Goals as goal

pub returns : goal.returns
returns c = whole_uncalled
