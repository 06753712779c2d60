use Rattle.std.proofs.Common.{◌≡◌, drop}
use Rattle.wt_expand.specs.Work.{is_among}
use Rattle.wt_transclusion.proofs.templates.is_open.Given as goal

abbrev pub invariant-loop-name : goal.invariant-loop-name
invariant-loop-name l = is_among l.full (drop l.name-index l.names) ≡ is_among l.full l.names
