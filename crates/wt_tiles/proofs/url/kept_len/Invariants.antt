use Rattle.std.proofs.Common.{◌≡◌, ◌-◌, ◌≤◌, length, take}
use Rattle.std.specs.Prelude.{reverse}
use Rattle.std.specs.List.{prefix_len}
use Rattle.wt_tiles.specs.Glyphs.{is_in}
use Rattle.wt_tiles.specs.Urls.{is_dropped}
use Rattle.wt_tiles.proofs.url.kept_len.Given as goal

abbrev pub invariant-loop-end : goal.invariant-loop-end
invariant-loop-end l = record {
  within : l.end ≤ length l.items;
  rest : l.end - prefix_len (is_in (is_dropped l.paren)) (reverse (take l.end l.items))
      ≡ length l.items - prefix_len (is_in (is_dropped l.paren)) (reverse l.items);
}

abbrev pub decreases-loop-end : goal.decreases-loop-end
decreases-loop-end l = l.end
