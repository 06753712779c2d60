use Rattle.std.proofs.Common.{arith}
use Rattle.std.proofs.lemmas.Grind.{common_steps}
use Rattle.wt_annotated.proofs.HeldPieces.{held_list}
use Rattle.wt_annotated.proofs.PieceWalks.{items_append}
use Rattle.wt_annotated.proofs.held.with_held.Goals as goal

pub returns : goal.returns
returns c = rw (held_list c.args.children.now) (grind (arith, common_steps, items_append))
