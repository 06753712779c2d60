use Rattle.wt_html_in.proofs.Pieces.{child_rolled}
use Rattle.wt_html_in.proofs.walk.with_child.Goals as goal

pub returns : goal.returns
returns c = child_rolled c.args.node c.args.child c.push.new.self c.in_ok-push.ensures.ok
