use Rattle.std.proofs.Common.{◌≡◌, drop}
use Rattle.wt_expand.specs.Templates.{begins_only}
use Rattle.wt_transclusion.specs.Only.{first_at}
use Rattle.wt_transclusion.proofs.Firsts.{shifted}
use Rattle.wt_transclusion.proofs.only.first_begin.Given as goal

abbrev pub invariant-loop-at : goal.invariant-loop-at
invariant-loop-at l = shifted l.at (first_at begins_only (drop l.at l.bytes)) ≡ first_at begins_only l.bytes
