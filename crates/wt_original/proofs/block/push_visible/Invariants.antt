use Rattle.std.proofs.Common.{◌≡◌, ◌++◌, take}
use Rattle.wt_original.specs.Kept.{visible}
use Rattle.wt_original.specs.Gathered.{items_seen}
use Rattle.wt_original.proofs.block.push_visible.Given as goal

abbrev pub invariant-loop-item : goal.invariant-loop-item
invariant-loop-item l = items_seen l.out.items ≡ items_seen l.fn.out.items ++ visible (items_seen (take l.item-index l.items))
