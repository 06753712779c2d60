use Rattle.std.proofs.Common.{◌≡◌, ◌++◌, map, take}
use Rattle.wt_tree.specs.Stream.{byte}
use Rattle.wt_checks.specs.Tokens.{written_signs}
use Rattle.wt_checks.proofs.written.push_text.Given as goal

abbrev pub invariant-loop-byte : goal.invariant-loop-byte
invariant-loop-byte l = written_signs l.out.items ≡ written_signs l.fn.out.items ++ map byte (take l.byte-index l.byte-items)
