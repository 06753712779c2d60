use Rattle.std.proofs.Common.{◌≡◌, ◌+◌}
use Rattle.std.specs.List.{prefix_len}
use Rattle.wt_lines.specs.Signs.{left}
use Rattle.wt_blocks.specs.Classes.{is_of}
use Rattle.wt_blocks.proofs.ends.front_len.Given as goal

abbrev pub invariant-loop-n : goal.invariant-loop-n
invariant-loop-n l = l.n + prefix_len (is_of l.class) (left l.rest) ≡ prefix_len (is_of l.class) (left l.signs)
