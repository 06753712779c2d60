use Rattle.std.proofs.Common.{◌≡◌, take}
use Rattle.wt_span.specs.Items.{items}
use Rattle.wt_tree.specs.View.{texts_of}
use Rattle.wt_annotated.specs.Pieces.{outer_calls}
use Rattle.wt_annotated.specs.Seams.{last_of, text_from}
use Rattle.wt_annotated.proofs.page_text.listed_texts.Given as goal

abbrev pub invariant-loop-piece : goal.invariant-loop-piece
invariant-loop-piece l = record {
  texts : texts_of l.texts ≡ text_from (outer_calls l.calls) l.fn.before (items (take l.piece-index l.pieces));
  last : l.last ≡ last_of l.fn.before (items (take l.piece-index l.pieces));
}
