use Rattle.std.proofs.Common.{◌≡◌, Some, drop}
use Rattle.wt_span.specs.Items.{items}
use Rattle.wt_expand.specs.Texts.{target_text, both}
use Rattle.wt_transclusion.proofs.target.target_text.Given as goal

abbrev pub invariant-loop-piece : goal.invariant-loop-piece
invariant-loop-piece l = both (Some l.text) (target_text (items (drop l.piece-index l.pieces))) ≡ target_text (items l.pieces)
