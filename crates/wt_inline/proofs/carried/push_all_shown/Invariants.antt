use Rattle.std.proofs.Common.{◌≡◌, ◌++◌, take}
use Rattle.std.specs.List.{flat_map}
use Rattle.wt_span.specs.Items.{items}
use Rattle.wt_inline.specs.Carried.{shown_item}
use Rattle.wt_inline.proofs.carried.push_all_shown.Given as goal

abbrev pub invariant-loop-piece : goal.invariant-loop-piece
invariant-loop-piece l = l.out ≡ l.fn.out ++ flat_map shown_item (items (take l.piece-index l.own))
