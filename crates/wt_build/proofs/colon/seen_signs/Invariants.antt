use Rattle.std.proofs.Common.{◌≡◌, take}
use Rattle.std.specs.List.{flat_map}
use Rattle.wt_tables.specs.Views.{numbers}
use Rattle.wt_tiles.specs.Cutting.{tile_of}
use Rattle.wt_page.specs.Lists.{seen_signs}
use Rattle.wt_build.proofs.colon.seen_signs.Given as goal

abbrev pub invariant-loop-tile : goal.invariant-loop-tile
invariant-loop-tile l = numbers l.out ≡ flat_map (λ t. seen_signs (tile_of t)) (take l.tile-index l.tile-items)
