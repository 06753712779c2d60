use Rattle.wt_inside_laws.proofs.LocalTextEdits.{ordinary_local, ordinary_alike}
use Rattle.wt_inside_laws.proofs.local.text_edits_are_local.Goals as goal

pub returns-clause-nodes : goal.returns-clause-nodes
returns-clause-nodes c = ordinary_local

pub returns-clause-calls : goal.returns-clause-calls
returns-clause-calls c = ordinary_alike
