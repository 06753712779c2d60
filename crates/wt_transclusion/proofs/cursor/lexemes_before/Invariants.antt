use Rattle.std.proofs.Common.{◌≡◌, ◌+◌, drop}
use Rattle.std.specs.Prelude.{nat_le}
use Rattle.std.specs.List.{prefix_len}
use Rattle.wt_transclusion.proofs.cursor.lexemes_before.Given as goal

abbrev pub invariant-loop-i : goal.invariant-loop-i
invariant-loop-i l = l.i + prefix_len (λ x. nat_le x.at.end l.to) (drop l.i l.lexemes) ≡ prefix_len (λ x. nat_le x.at.end l.to) l.lexemes
