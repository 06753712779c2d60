use Rattle.wt_call_laws.proofs.Unedited.{kept_bytes}
use Rattle.wt_call_laws.proofs.kept.unedited_nodes_keep_their_bytes.Goals as goal

pub returns : goal.returns
returns c = kept_bytes
