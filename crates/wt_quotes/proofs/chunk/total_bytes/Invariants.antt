use Rattle.std.proofs.Common.{◌≡◌}
use Rattle.wt_quotes.specs.Runs.{place_of}
use Rattle.wt_quotes.proofs.chunk.total_bytes.Given as goal

abbrev pub invariant-loop-at : goal.invariant-loop-at
invariant-loop-at l = l.total ≡ place_of l.chunks l.at
