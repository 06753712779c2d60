use Rattle.wt_listing.proofs.Lines.{level}
use Rattle.wt_listing.proofs.laws.line_before_children.Goals as goal

pub returns : goal.returns
returns c = level
