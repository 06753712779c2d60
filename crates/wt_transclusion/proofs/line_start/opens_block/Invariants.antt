use Rattle.std.proofs.Common.{◌≡◌, drop}
use Rattle.wt_span.specs.Items.{items}
use Rattle.wt_expand.specs.Expansion.{opens_block}
use Rattle.wt_transclusion.proofs.line_start.opens_block.Given as goal

abbrev pub invariant-loop-i : goal.invariant-loop-i
invariant-loop-i l = opens_block (items (drop l.i l.pieces)) ≡ opens_block (items l.pieces)
