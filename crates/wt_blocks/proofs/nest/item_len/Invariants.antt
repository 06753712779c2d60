use Rattle.std.proofs.Common.{◌≡◌, ℕ, ◌+◌, ◌<◌, true, get_or, []}
use Rattle.wt_blocks.specs.Slices.{one_item_at}
use Rattle.wt_blocks.proofs.nest.item_len.Given as goal

abbrev pub invariant-loop-i : goal.invariant-loop-i
invariant-loop-i l = (k : ℕ) → k < l.i → one_item_at l.depth (get_or l.prefixes k []) (get_or l.prefixes (k + 1) []) ≡ true
