use Rattle.std.proofs.Common.{◌≡◌, ◌++◌, take}
use Rattle.wt_tables.specs.Views.{numbers}
use Rattle.wt_tables.proofs.scan.push_bytes.Given as goal

abbrev pub invariant-loop-byte : goal.invariant-loop-byte
invariant-loop-byte l = numbers l.out ≡ numbers l.initial.out ++ take l.byte-index l.bytes
