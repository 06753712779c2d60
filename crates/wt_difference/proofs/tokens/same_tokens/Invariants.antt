use Rattle.std.proofs.Common.{◌≡◌, drop, length}
use Rattle.wt_difference.specs.Tokens.{same_tokens}
use Rattle.wt_difference.specs.Views.{tokens_view}
use Rattle.wt_difference.proofs.tokens.same_tokens.Given as goal

abbrev pub invariant-loop-at : goal.invariant-loop-at
invariant-loop-at l = record {
  long : length l.old ≡ length l.new;
  left : same_tokens (tokens_view l.old) (tokens_view l.new) ≡ same_tokens (tokens_view (drop l.at l.old)) (tokens_view (drop l.at l.new));
}
