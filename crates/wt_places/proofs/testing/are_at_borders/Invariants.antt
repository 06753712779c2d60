use Rattle.std.proofs.Common.{drop}
use Rattle.wt_splice.specs.Splice.{AreAtBorders}
use Rattle.wt_splice.specs.Views.{changes_view}
use Rattle.wt_places.proofs.testing.are_at_borders.Given as goal

abbrev pub invariant-loop-change : goal.invariant-loop-change
invariant-loop-change l = AreAtBorders l.page (changes_view (drop l.change-index l.changes)) → AreAtBorders l.page (changes_view l.changes)
