use Rattle.std.proofs.Common.{◌≡◌, ◌<◌, ℕ, None, drop}
use Rattle.wt_span.specs.Entities.{entity_at}
use Rattle.wt_inline.proofs.inside.chars_len.Given as goal

abbrev pub invariant-loop-at : goal.invariant-loop-at
invariant-loop-at l = (k : ℕ) → k < l.at → entity_at (drop k l.bytes) ≡ None
