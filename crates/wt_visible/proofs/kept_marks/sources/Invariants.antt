use Rattle.std.proofs.Common.{◌≡◌, take}
use Rattle.wt_checks.specs.View.{all_seen}
use Rattle.wt_visible.specs.KeptMarks.{sources}
use Rattle.wt_visible.proofs.kept_marks.sources.Given as goal

abbrev pub invariant-loop-visit : goal.invariant-loop-visit
invariant-loop-visit l = l.out.items ≡ sources l.kind (all_seen (take l.visit-index l.page))
