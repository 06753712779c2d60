use Rattle.std.proofs.Common.{◌≡◌, drop}
use Rattle.wt_schema.specs.Groups.{is_gap}
use Rattle.wt_html_in.proofs.roles.is_gap.Given as goal

abbrev pub invariant-loop-byte : goal.invariant-loop-byte
invariant-loop-byte l = is_gap (drop l.byte-index l.text) ≡ is_gap l.text
