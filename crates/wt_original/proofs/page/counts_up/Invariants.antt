use Rattle.std.proofs.Common.{◌≡◌, ◌+◌, map, drop}
use Rattle.wt_original.specs.Gathered.{kept_view}
use Rattle.wt_original.specs.Numbers.{counts_up}
use Rattle.wt_original.proofs.page.counts_up.Given as goal

abbrev pub invariant-loop-at : goal.invariant-loop-at
invariant-loop-at l = counts_up l.first (map kept_view l.kept) ≡ counts_up (l.first + l.at) (map kept_view (drop l.at l.kept))
