use Rattle.std.proofs.Common.{◌≡◌, ◌≤◌, length}
use Rattle.std.specs.List.{list_any}
use Rattle.wt_isolation.specs.Toggles.{is_odd_line, lines}
use Rattle.wt_isolation.proofs.QuoteRuns.{unbroken}
use Rattle.wt_isolation.proofs.toggles.has_odd_line.Given as goal

abbrev pub invariant-loop-len : goal.invariant-loop-len
invariant-loop-len l = record {
  first : l.len ≡ unbroken l.left;
  within : l.len ≤ length l.left;
  same : list_any is_odd_line (lines l.left) ≡ list_any is_odd_line (lines l.glyphs);
}

abbrev pub decreases-loop-len : goal.decreases-loop-len
decreases-loop-len l = length l.left
