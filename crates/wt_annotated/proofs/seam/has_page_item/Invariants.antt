use Rattle.std.proofs.Common.{◌≡◌, drop}
use Rattle.std.specs.List.{list_any}
use Rattle.wt_span.specs.Items.{items}
use Rattle.wt_annotated.specs.Clean.{is_page}
use Rattle.wt_annotated.proofs.seam.has_page_item.Given as goal

abbrev pub invariant-loop-piece : goal.invariant-loop-piece
invariant-loop-piece l = list_any is_page (items (drop l.piece-index l.pieces)) ≡ list_any is_page (items l.pieces)
