use Rattle.wt_inside_laws.proofs.LocalTextEdits.{calling_local}
use Rattle.wt_inside_laws.proofs.local.text_edits_beside_calls_are_local.Goals as goal

pub returns : goal.returns
returns c = calling_local
