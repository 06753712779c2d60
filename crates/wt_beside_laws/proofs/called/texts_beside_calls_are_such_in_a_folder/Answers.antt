use Rattle.wt_beside_laws.proofs.Groups.Folders.{called_in}
use Rattle.wt_beside_laws.proofs.called.texts_beside_calls_are_such_in_a_folder.Goals as goal

pub returns : goal.returns
returns c = called_in
