use Rattle.wt_inside_laws.proofs.TypedApart.{ordinary_apart}
use Rattle.wt_inside_laws.proofs.local.marked_blocks_make_nothing_else.Goals as goal

pub returns : goal.returns
returns c = ordinary_apart
