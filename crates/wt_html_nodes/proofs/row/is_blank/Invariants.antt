use Rattle.std.proofs.Common.{◌≡◌, drop}
use Rattle.wt_recut.specs.Recut.{is_blank}
use Rattle.wt_html_nodes.proofs.row.is_blank.Given as goal

abbrev pub invariant-loop-byte : goal.invariant-loop-byte
invariant-loop-byte l = is_blank (drop l.byte-index l.text) ≡ is_blank l.text
