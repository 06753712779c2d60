use Rattle.std.proofs.Common.{◌≡◌, ◌+◌, ◌-◌, ◌≤◌, length, drop}
use Rattle.std.specs.List.{prefix_len}
use Rattle.wt_html_grammar.specs.Signs.{in_value}
use Rattle.wt_html_grammar.specs.Machine.{is_plain}
use Rattle.wt_html_elements.proofs.run.run_end.Given as goal

abbrev pub invariant-loop-i : goal.invariant-loop-i
invariant-loop-i l =
    (l.from + prefix_len (is_plain (in_value l.quote)) (drop l.from l.bytes) ≡ l.i + prefix_len (is_plain (in_value l.quote)) (drop l.i l.bytes))
    × (l.i ≤ length l.bytes)

abbrev pub decreases-loop-i : goal.decreases-loop-i
decreases-loop-i l = length l.bytes - l.i
