use Rattle.std.proofs.Common.{◌≡◌, ◌+◌, ℕ, List, map, take}
use Rattle.wt_visible.specs.Tally.{counted, times, trimmed}
use Rattle.wt_visible.proofs.kept_marks.are_counted.Given as goal

abbrev pub invariant-loop-text : goal.invariant-loop-text
invariant-loop-text l =
    (other : List ℕ) → times other (map trimmed l.others) ≡ counted l.tally other + times other (map trimmed (take l.text-index l.texts))
