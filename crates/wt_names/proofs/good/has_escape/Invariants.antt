use Rattle.std.proofs.Common.{◌≡◌, drop}
use Rattle.wt_names.specs.Good.{anywhere, begins_with_escape, has_escape}
use Rattle.wt_names.proofs.good.has_escape.Given as goal

abbrev pub invariant-loop-at : goal.invariant-loop-at
invariant-loop-at l = anywhere begins_with_escape (drop l.at l.name) ≡ has_escape l.name
