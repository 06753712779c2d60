use Rattle.std.proofs.Common.{◌≡◌, ◌+◌, drop}
use Rattle.std.specs.List.{prefix_len}
use Rattle.wt_span.specs.Bytes.{is_blank}
use Rattle.wt_tables.specs.Views.{numbers}
use Rattle.wt_tables.proofs.scan.blank_len.Given as goal

abbrev pub invariant-loop-i : goal.invariant-loop-i
invariant-loop-i l = l.i + prefix_len is_blank (drop l.i (numbers l.signs)) ≡ prefix_len is_blank (numbers l.signs)
