use Rattle.std.proofs.Common.{◌≡◌, ℕ, ◌<◌, ◌≤◌, get_or, false}
use Rattle.wt_lex.specs.Words.{after_break, may_begin}
use Rattle.wt_lex.proofs.scan.next_place.Given as goal

abbrev pub invariant-loop-at : goal.invariant-loop-at
invariant-loop-at l = (k : ℕ) → l.from ≤ k → k < l.at → may_begin (after_break l.text k) (get_or l.text k 0) ≡ false
