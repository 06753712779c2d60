use Rattle.std.proofs.Common.{◌≡◌, ◌+◌, drop}
use Rattle.wt_attributes.specs.Classes.{run_len}
use Rattle.wt_attributes.proofs.class.ScanClass.run_len.Given as goal

abbrev pub invariant-loop-i : goal.invariant-loop-i
invariant-loop-i l = l.i + run_len l.self (drop l.i l.bytes) ≡ run_len l.self l.bytes
