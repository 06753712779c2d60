use Rattle.std.proofs.Common.{◌≡◌, ◌≤◌, length, take}
use Rattle.wt_span.specs.Items.{items}
use Rattle.wt_ranges.specs.DataSoFar.{Continues, nothing_found}
use Rattle.wt_annotated.specs.Pieces.{outer_calls}
use Rattle.wt_annotated.specs.Seams.{last_of, text_from}
use Rattle.wt_ranges.proofs.carried.group_data.Given as goal

abbrev pub invariant-loop-piece : goal.invariant-loop-piece
invariant-loop-piece l = record {
  found : Continues (outer_calls l.calls) l.fn.before nothing_found (items (take l.piece-index l.pieces)) l.found;
  number : l.found.number ≤ length (text_from (outer_calls l.calls) l.fn.before (items (take l.piece-index l.pieces)));
  last : l.last ≡ last_of l.fn.before (items (take l.piece-index l.pieces));
}
