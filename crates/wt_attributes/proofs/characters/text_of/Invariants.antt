use Rattle.std.proofs.Common.{◌≡◌, string_bytes, take}
use Rattle.wt_span.specs.Items.{items}
use Rattle.wt_attributes.specs.Characters.{text_of}
use Rattle.wt_attributes.proofs.characters.text_of.Given as goal

abbrev pub invariant-loop-piece : goal.invariant-loop-piece
invariant-loop-piece l = string_bytes l.out ≡ text_of (items (take l.piece-index l.pieces))
