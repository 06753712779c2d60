use Rattle.std.proofs.Common.{◌≡◌, take}
use Rattle.std.specs.List.{flat_map}
use Rattle.wt_checks.specs.View.{all_seen, indexed}
use Rattle.wt_slices.specs.Changes.{pair_at}
use Rattle.wt_slices.specs.Views.{pairs_of}
use Rattle.wt_slices.proofs.change.pairs_in.Given as goal

abbrev pub invariant-loop-visit : goal.invariant-loop-visit
invariant-loop-visit l = pairs_of l.pairs.items ≡ flat_map (pair_at (indexed l.index)) (all_seen (take l.visit-index l.edited))
