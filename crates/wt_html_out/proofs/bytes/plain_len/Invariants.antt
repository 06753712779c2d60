use Rattle.std.proofs.Common.{◌≡◌, true, take}
use Rattle.std.specs.List.{list_all}
use Rattle.wt_html_out.specs.Runs.{is_plain}
use Rattle.wt_html_out.proofs.bytes.plain_len.Given as goal

abbrev pub invariant-loop-i : goal.invariant-loop-i
invariant-loop-i l = list_all (is_plain l.quote) (take l.i l.bytes) ≡ true
