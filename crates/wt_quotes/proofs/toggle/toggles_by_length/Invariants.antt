use Rattle.std.proofs.Common.{◌≡◌, ◌+◌, ◌<◌, ◌^◌, All}
use Rattle.std.specs.List.{filter_map, range_with_len}
use Rattle.wt_quotes.specs.Toggles.{toggle_at}
use Rattle.wt_quotes.proofs.toggle.toggles_by_length.Given as goal

abbrev pub invariant-loop-at : goal.invariant-loop-at
invariant-loop-at l = record {
  value : l.toggles.items ≡ filter_map (toggle_at l.chunks) (range_with_len 0 l.at);
  room : All (λ t. t.plain + 1 < 2 ^ 32) l.toggles.items;
}
