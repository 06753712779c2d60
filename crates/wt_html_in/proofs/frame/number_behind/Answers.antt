use Rattle.wt_html_in.proofs.Frames.{many_behind}
use Rattle.wt_html_in.proofs.frame.number_behind.Goals as goal

pub returns-in_default : goal.returns-in_default
returns-in_default c = many_behind c.args.before.now c.in_default.len_at_least
