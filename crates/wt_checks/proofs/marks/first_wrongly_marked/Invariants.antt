use Rattle.std.proofs.Common.{◌≡◌, take, drop}
use Rattle.wt_checks.specs.Marks.{is_wrongly_marked}
use Rattle.wt_checks.specs.Places.{first, first_after}
use Rattle.wt_checks.specs.View.{all_seen, indexed}
use Rattle.wt_checks.proofs.marks.first_wrongly_marked.Given as goal

abbrev pub invariant-loop-visit : goal.invariant-loop-visit
invariant-loop-visit l =
    first (is_wrongly_marked (indexed l.index)) (all_seen l.edited) ≡ first_after (is_wrongly_marked (indexed l.index))
    (all_seen (take l.visit-index l.edited)) (all_seen (drop l.visit-index l.edited))
