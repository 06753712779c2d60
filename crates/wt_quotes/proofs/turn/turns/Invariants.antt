use Rattle.std.proofs.Common.{◌≡◌, ◌<◌, true, false, map}
use Rattle.std.specs.Prelude.{IfSome}
use Rattle.std.specs.List.{range_with_len}
use Rattle.wt_quotes.specs.Turns.{since, turn_at}
use Rattle.wt_quotes.proofs.turn.turns.Given as goal

abbrev pub invariant-loop-at : goal.invariant-loop-at
invariant-loop-at l = record {
  bold : l.opened.bold ≡ since true l.toggles l.at;
  italic : l.opened.italic ≡ since false l.toggles l.at;
  within : IfSome l.opened.bold (λ a. a < l.at);
  turns : l.turns.items ≡ map (turn_at l.chunks l.toggles) (range_with_len 0 l.at);
}
