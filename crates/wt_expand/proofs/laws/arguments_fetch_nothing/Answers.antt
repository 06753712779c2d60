use Rattle.wt_expand.proofs.Names.{no_template_no_fetch}
use Rattle.wt_expand.proofs.laws.arguments_fetch_nothing.Goals as goal

pub returns : goal.returns
returns c = no_template_no_fetch
