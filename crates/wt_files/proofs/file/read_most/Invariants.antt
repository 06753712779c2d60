use Rattle.std.proofs.Common.{◌-◌, ◌≤◌, vec_items, vec_len}
use Rattle.std.specs.Io.KnownBytes.{Consumes}
use Rattle.wt_files.proofs.file.read_most.Given as goal

abbrev pub invariant-pieces : goal.invariant-pieces
invariant-pieces g l = record {
  within : vec_len l.bytes ≤ l.most;
  given : Consumes (g.F.Read.remaining l.fn.file) (g.F.Read.remaining l.file) (vec_items l.bytes);
}

abbrev pub decreases-pieces : goal.decreases-pieces
decreases-pieces g l = l.most - vec_len l.bytes
