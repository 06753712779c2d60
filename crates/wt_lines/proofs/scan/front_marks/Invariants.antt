use Rattle.std.proofs.Common.{◌≡◌, ◌+◌, drop}
use Rattle.std.specs.List.{prefix_len}
use Rattle.wt_lines.specs.Pieces.{is_mark_piece}
use Rattle.wt_lines.proofs.scan.front_marks.Given as goal

abbrev pub invariant-loop-i : goal.invariant-loop-i
invariant-loop-i l = l.i + prefix_len is_mark_piece (drop l.i l.pieces) ≡ prefix_len is_mark_piece l.pieces
