use Rattle.std.proofs.Common.{◌≡◌, drop, ◌++◌}
use Rattle.wt_quotes.specs.Styles.{styles_by}
use Rattle.wt_quotes.proofs.style.styles_by.Given as goal

abbrev pub invariant-loop-at : goal.invariant-loop-at
invariant-loop-at l = l.styles ++ styles_by l.total (drop l.at l.turns) ≡ styles_by l.total l.turns
