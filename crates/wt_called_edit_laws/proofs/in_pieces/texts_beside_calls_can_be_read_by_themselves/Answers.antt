use Rattle.wt_called_edit_laws.proofs.Whole.Contents.{written_groups}
use Rattle.wt_called_edit_laws.proofs.in_pieces.texts_beside_calls_can_be_read_by_themselves.Goals as goal

pub returns : goal.returns
returns c = written_groups
