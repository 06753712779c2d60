use Rattle.std.proofs.Common.{◌≡◌, ℕ, ◌+◌, ◌-◌, ◌≤◌, ◌++◌, List, length, take, None}
use Rattle.wt_html_elements.specs.Answer.{IsFed}
use Rattle.wt_html_elements.proofs.reader.Reader.feed_all.Given as goal

abbrev pub invariant-loop-at : goal.invariant-loop-at
invariant-loop-at l = record {
  within : l.at ≤ length l.piece;
  going : l.self.failed ≡ None;
  count : l.self.taken ≡ l.initial.self.taken + l.at;
  fed : (bytes : List ℕ) → IsFed l.initial.self bytes → IsFed l.self (bytes ++ take l.at l.piece);
}

abbrev pub decreases-loop-at : goal.decreases-loop-at
decreases-loop-at l = length l.piece - l.at
