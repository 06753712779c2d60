use Rattle.std.proofs.Common.{◌≡◌, take}
use Rattle.wt_span.specs.Items.{items}
use Rattle.wt_expand.specs.Texts.{shown_text}
use Rattle.wt_expand.proofs.shown.text_shown.Given as goal

abbrev pub invariant-loop-piece : goal.invariant-loop-piece
invariant-loop-piece l = l.text ≡ shown_text (items (take l.piece-index l.pieces))
