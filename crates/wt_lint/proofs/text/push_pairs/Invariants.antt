use Rattle.std.proofs.Common.{◌≡◌, ◌<◌, ◌+◌, ◌++◌, true, drop}
use Rattle.wt_lint.specs.Found.{each, as_all}
use Rattle.wt_lint.specs.Texts.{pairs}
use Rattle.wt_lint.proofs.TextTurns.{left}
use Rattle.wt_lint.proofs.text.push_pairs.Given as goal

abbrev pub invariant-loop-at : goal.invariant-loop-at
invariant-loop-at l = record {
  taken : each l.found.items ++ as_all l.kind (left l.byte (l.start + l.at) l.held (drop l.at l.bytes))
      ≡ each l.fn.found.items ++ as_all l.kind (pairs l.byte l.start l.bytes);
  behind : l.held ≡ true → 0 < l.at;
}
