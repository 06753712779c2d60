use Rattle.std.proofs.Common.{◌≡◌, ◌++◌, map, take}
use Rattle.wt_tree.specs.Stream.{byte}
use Rattle.wt_checks.specs.Tokens.{read_signs}
use Rattle.wt_checks.proofs.read.push_text.Given as goal

abbrev pub invariant-loop-byte : goal.invariant-loop-byte
invariant-loop-byte l = read_signs l.out.items ≡ read_signs l.fn.out.items ++ map byte (take l.byte-index l.byte-items)
