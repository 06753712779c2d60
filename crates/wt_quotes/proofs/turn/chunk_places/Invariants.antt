use Rattle.std.proofs.Common.{◌≡◌, map}
use Rattle.std.specs.List.{range_with_len}
use Rattle.wt_quotes.specs.Runs.{place_of}
use Rattle.wt_quotes.proofs.turn.chunk_places.Given as goal

abbrev pub invariant-loop-at : goal.invariant-loop-at
invariant-loop-at l = record {
  place : l.place ≡ place_of l.chunks l.at;
  places : l.places.items ≡ map (place_of l.chunks) (range_with_len 0 l.at);
}
