use Rattle.std.proofs.Common.{◌≡◌, ◌+◌, drop, not}
use Rattle.std.specs.Prelude.{◌==◌}
use Rattle.std.specs.List.{prefix_len}
use Rattle.wt_tables.specs.Views.{numbers}
use Rattle.wt_build.proofs.colon.colon_at.Given as goal

abbrev pub invariant-loop-i : goal.invariant-loop-i
invariant-loop-i l = l.i + prefix_len (λ s. not (s == 58)) (drop l.i (numbers l.signs)) ≡ prefix_len (λ s. not (s == 58)) (numbers l.signs)
