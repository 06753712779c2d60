use Rattle.std.proofs.Common.{◌≡◌, drop}
use Rattle.wt_quotes.specs.Styles.{ending}
use Rattle.wt_quotes.proofs.style.ending.Given as goal

abbrev pub invariant-loop-turn : goal.invariant-loop-turn
invariant-loop-turn l = ending l.bold l.total (drop l.turn-index l.turns) ≡ ending l.bold l.total l.turns
