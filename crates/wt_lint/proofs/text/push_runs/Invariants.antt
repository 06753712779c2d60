use Rattle.std.proofs.Common.{◌≡◌, ◌+◌, ◌++◌, false, drop}
use Rattle.wt_lint.specs.Found.{each, as_all}
use Rattle.wt_lint.specs.Texts.{runs}
use Rattle.wt_lint.proofs.text.push_runs.Given as goal

abbrev pub invariant-loop-at : goal.invariant-loop-at
invariant-loop-at l =
    each l.found.items ++ as_all l.kind (runs l.byte (l.start + l.at) l.behind (drop l.at l.bytes))
    ≡ each l.fn.found.items ++ as_all l.kind (runs l.byte l.start false l.bytes)
