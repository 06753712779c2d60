use Rattle.std.proofs.Common.{◌≡◌, ◌++◌, map, take}
use Rattle.wt_tree.specs.Stream.{byte}
use Rattle.wt_original.specs.PageViews.{marks_of}
use Rattle.wt_original.proofs.same.push_bytes.Given as goal

abbrev pub invariant-loop-byte : goal.invariant-loop-byte
invariant-loop-byte l = marks_of l.out.items ≡ marks_of l.fn.out.items ++ map byte (take l.byte-index l.bytes)
