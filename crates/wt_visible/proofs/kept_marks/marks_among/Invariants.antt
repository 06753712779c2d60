use Rattle.std.proofs.Common.{◌≡◌, take}
use Rattle.wt_checks.specs.View.{all_seen}
use Rattle.wt_visible.specs.KeptMarks.{marks}
use Rattle.wt_visible.proofs.kept_marks.marks_among.Given as goal

abbrev pub invariant-loop-visit : goal.invariant-loop-visit
invariant-loop-visit l = all_seen l.out.items ≡ marks (all_seen (take l.visit-index l.visits))
