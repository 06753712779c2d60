use Rattle.wt_context.proofs.Placing.{context_placed}
use Rattle.wt_context.proofs.laws.parts_stand_in_styles.Goals as goal

pub returns : goal.returns
returns c = context_placed
