use Rattle.std.proofs.Common.{◌≡◌, drop}
use Rattle.wt_expand.specs.Templates.{ends_only}
use Rattle.wt_transclusion.specs.Only.{first_at}
use Rattle.wt_transclusion.proofs.Firsts.{shifted}
use Rattle.wt_transclusion.proofs.only.first_end.Given as goal

abbrev pub invariant-loop-at : goal.invariant-loop-at
invariant-loop-at l = shifted l.at (first_at ends_only (drop l.at l.bytes)) ≡ first_at ends_only l.bytes
