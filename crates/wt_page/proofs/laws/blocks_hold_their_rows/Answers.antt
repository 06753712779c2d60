use Rattle.wt_page.proofs.HeldBody.{of_blocks}
use Rattle.wt_page.proofs.laws.blocks_hold_their_rows.Goals as goal

pub returns : goal.returns
returns c = of_blocks
