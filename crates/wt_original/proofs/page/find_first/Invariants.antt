use Rattle.std.proofs.Common.{◌≡◌, map, drop}
use Rattle.wt_original.specs.Kept.{first_with}
use Rattle.wt_original.specs.Gathered.{kept_view}
use Rattle.wt_original.proofs.page.find_first.Given as goal

abbrev pub invariant-loop-entry : goal.invariant-loop-entry
invariant-loop-entry l = first_with l.id (map kept_view l.kept) ≡ first_with l.id (map kept_view (drop l.entry-index l.kept))
