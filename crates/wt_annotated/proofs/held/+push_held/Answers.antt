use Rattle.std.proofs.Common.{arith}
use Rattle.std.proofs.lemmas.Grind.{common_steps}
use Rattle.wt_annotated.proofs.HeldPieces.{held_out}
use Rattle.wt_annotated.proofs.PieceWalks.{items_append}
use Rattle.wt_annotated.proofs.held.+push_held.Goals as goal

pub returns : goal.returns
returns t c = rw (held_out c.args.tree.now) (grind (arith, common_steps, items_append))
