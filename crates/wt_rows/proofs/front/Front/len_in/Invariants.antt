use Rattle.std.proofs.Common.{◌≡◌, ◌+◌, drop}
use Rattle.std.specs.List.{prefix_len}
use Rattle.wt_rows.specs.Fronts.{in_front}
use Rattle.wt_rows.proofs.front.Front.len_in.Given as goal

abbrev pub invariant-loop-i : goal.invariant-loop-i
invariant-loop-i l = l.i + prefix_len (in_front l.self) (drop l.i l.bytes) ≡ prefix_len (in_front l.self) l.bytes
