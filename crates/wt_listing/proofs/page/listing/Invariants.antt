use Rattle.std.proofs.Common.{◌≡◌, take}
use Rattle.std.specs.List.{flat_map}
use Rattle.wt_listing.specs.Listing.{line_of}
use Rattle.wt_listing.proofs.page.listing.Given as goal

abbrev pub invariant-loop-row : goal.invariant-loop-row
invariant-loop-row l = l.out.items ≡ flat_map line_of (take l.row-index l.row-items)
