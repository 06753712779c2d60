use Rattle.std.proofs.Common.{◌≡◌, take, map}
use Rattle.wt_lint.specs.Lines.{as_located}
use Rattle.wt_lint.specs.Report.{finding_lines}
use Rattle.wt_lint.proofs.report.finding_lines.Given as goal

abbrev pub invariant-loop-finding : goal.invariant-loop-finding
invariant-loop-finding l = l.out.items ≡ finding_lines (map as_located (take l.finding-index l.findings))
