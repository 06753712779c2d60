use Rattle.std.proofs.Common.{◌≡◌, take}
use Rattle.wt_span.specs.Items.{items}
use Rattle.wt_context.specs.Heads.{visible_source}
use Rattle.wt_context.proofs.text.visible_source.Given as goal

abbrev pub invariant-loop-piece : goal.invariant-loop-piece
invariant-loop-piece l = l.source ≡ visible_source (items (take l.piece-index l.pieces))
