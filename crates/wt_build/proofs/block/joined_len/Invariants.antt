use Rattle.std.proofs.Common.{◌≡◌, ◌+◌, drop}
use Rattle.wt_build.specs.Blocks.{joined_len}
use Rattle.wt_build.proofs.block.joined_len.Given as goal

abbrev pub invariant-loop-i : goal.invariant-loop-i
invariant-loop-i l = l.i + joined_len l.kind (drop l.i l.rows) ≡ joined_len l.kind l.rows
