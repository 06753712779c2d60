use Rattle.wt_html_nodes.proofs.Labels.{some_there}
use Rattle.wt_html_nodes.proofs.head.is_none.Goals as goal

pub returns-in-len1-up : goal.returns-in-len1-up
returns-in-len1-up c = some_there c.args.contents.now c.in-len1-up.len_at_least
