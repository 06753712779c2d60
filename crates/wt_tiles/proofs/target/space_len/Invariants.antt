use Rattle.std.proofs.Common.{◌≡◌, ◌+◌, drop}
use Rattle.std.specs.List.{prefix_len}
use Rattle.wt_span.specs.Bytes.{is_white}
use Rattle.wt_tiles.proofs.target.space_len.Given as goal

abbrev pub invariant-loop-i : goal.invariant-loop-i
invariant-loop-i l = l.i + prefix_len is_white (drop l.i l.bytes) ≡ prefix_len is_white l.bytes
