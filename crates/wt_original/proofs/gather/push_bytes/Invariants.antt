use Rattle.std.proofs.Common.{◌≡◌, ◌++◌, take}
use Rattle.wt_original.specs.Kept.{characters}
use Rattle.wt_original.specs.Gathered.{items_seen}
use Rattle.wt_original.proofs.gather.push_bytes.Given as goal

abbrev pub invariant-loop-byte : goal.invariant-loop-byte
invariant-loop-byte l = items_seen l.out.items ≡ items_seen l.fn.out.items ++ characters (take l.byte-index l.bytes)
