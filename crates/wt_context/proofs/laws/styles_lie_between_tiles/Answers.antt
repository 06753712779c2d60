use Rattle.wt_context.proofs.Unstyling.{context_unstyled}
use Rattle.wt_context.proofs.laws.styles_lie_between_tiles.Goals as goal

pub returns : goal.returns
returns c = context_unstyled
