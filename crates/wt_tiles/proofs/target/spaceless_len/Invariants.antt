use Rattle.std.proofs.Common.{◌≡◌, ◌-◌, ◌≤◌, length, take}
use Rattle.std.specs.Prelude.{reverse}
use Rattle.std.specs.List.{prefix_len}
use Rattle.wt_span.specs.Bytes.{is_white}
use Rattle.wt_tiles.proofs.target.spaceless_len.Given as goal

abbrev pub invariant-loop-end : goal.invariant-loop-end
invariant-loop-end l = record {
  within : l.end ≤ length l.bytes;
  rest : l.end - prefix_len is_white (reverse (take l.end l.bytes)) ≡ length l.bytes - prefix_len is_white (reverse l.bytes);
}

abbrev pub decreases-loop-end : goal.decreases-loop-end
decreases-loop-end l = l.end
