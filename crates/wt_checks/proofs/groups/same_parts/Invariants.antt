use Rattle.std.proofs.Common.{◌≡◌, drop, length}
use Rattle.wt_checks.specs.Groups.{same_signs}
use Rattle.wt_checks.specs.Tokens.{written_signs, read_signs}
use Rattle.wt_checks.proofs.groups.same_parts.Given as goal

abbrev pub invariant-loop-at : goal.invariant-loop-at
invariant-loop-at l = record {
  long : length l.written ≡ length l.read;
  left : same_signs (written_signs l.written) (read_signs l.read) ≡ same_signs (written_signs (drop l.at l.written)) (read_signs (drop l.at l.read));
}
