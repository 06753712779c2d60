use Rattle.std.proofs.Common.{◌≡◌, ◌+◌, drop}
use Rattle.std.specs.Prelude.{option_map}
use Rattle.wt_tiles.specs.Searches.{search_place}
use Rattle.wt_tiles.proofs.link.Search.place.Given as goal

abbrev pub invariant-loop-at : goal.invariant-loop-at
invariant-loop-at l = option_map (λ n. l.at + n) (search_place l.self (drop l.at l.glyphs)) ≡ search_place l.self l.glyphs
