use Rattle.std.proofs.Common.{◌≡◌, drop}
use Rattle.std.specs.List.{list_all}
use Rattle.wt_span.specs.Items.{items}
use Rattle.wt_tables.specs.Cells.{is_text}
use Rattle.wt_tables.proofs.cell.are_texts.Given as goal

abbrev pub invariant-loop-piece : goal.invariant-loop-piece
invariant-loop-piece l = list_all is_text (items (drop l.piece-index l.pieces)) ≡ list_all is_text (items l.pieces)
