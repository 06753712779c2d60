use Rattle.std.proofs.Common.{◌≡◌, ◌-◌, ◌++◌}
use Rattle.wt_lines.specs.Signs.{left}
use Rattle.wt_page.specs.Lists.{prefix_of}
use Rattle.wt_span.specs.Items.{items}
use Rattle.wt_rows.specs.Prefixes.{list_signs}
use Rattle.wt_rows.proofs.prefix.prefix_of.Given as goal

abbrev pub invariant-loop-i : goal.invariant-loop-i
invariant-loop-i l = l.prefix ++ list_signs (32 - l.i) (left l.rest) ≡ prefix_of (items l.line)
