use Rattle.wt_isolation.proofs.OpenTags.{opened, opens}
use Rattle.wt_isolation.proofs.tangled_laws.open_tags.Goals as goal

pub returns : goal.returns
returns c = λ text. (opened text, opens text)
