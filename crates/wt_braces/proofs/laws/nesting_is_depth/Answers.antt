use Rattle.wt_braces.proofs.TextLaws.{depth_is}
use Rattle.wt_braces.proofs.laws.nesting_is_depth.Goals as goal

pub returns : goal.returns
returns c = depth_is
