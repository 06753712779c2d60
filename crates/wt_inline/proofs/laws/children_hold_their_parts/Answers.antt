use Rattle.wt_inline.proofs.HeldLaws.{held_children}
use Rattle.wt_inline.proofs.laws.children_hold_their_parts.Goals as goal

pub returns : goal.returns
returns c = held_children
