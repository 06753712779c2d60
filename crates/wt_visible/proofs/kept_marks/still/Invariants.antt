use Rattle.std.proofs.Common.{◌≡◌, take}
use Rattle.wt_checks.specs.View.{all_seen, indexed}
use Rattle.wt_visible.specs.KeptMarks.{still}
use Rattle.wt_visible.proofs.kept_marks.still.Given as goal

abbrev pub invariant-loop-visit : goal.invariant-loop-visit
invariant-loop-visit l = l.out.items ≡ still l.kind (indexed l.index) (all_seen (take l.visit-index l.edited))
