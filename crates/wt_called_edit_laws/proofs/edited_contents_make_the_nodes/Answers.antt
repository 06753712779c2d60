use Rattle.wt_called_edit_laws.proofs.TextsMake.{contents_make}
use Rattle.wt_called_edit_laws.proofs.edited_contents_make_the_nodes.Goals as goal

pub returns : goal.returns
returns c fs o old new ss = contents_make fs o old new ss
