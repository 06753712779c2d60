use Rattle.std.proofs.Common.{◌≡◌, take}
use Rattle.wt_tree.specs.View.{texts_of}
use Rattle.wt_span.specs.Items.{items, sources}
use Rattle.wt_annotated.proofs.held.listed_texts.Given as goal

abbrev pub invariant-loop-piece : goal.invariant-loop-piece
invariant-loop-piece l = texts_of l.texts ≡ sources (items (take l.piece-index l.pieces))
