use Rattle.std.proofs.Common.{◌≡◌, drop}
use Rattle.std.specs.List.{list_all}
use Rattle.wt_original.specs.Kept.{is_blank_item}
use Rattle.wt_original.specs.Gathered.{items_seen}
use Rattle.wt_original.proofs.kept.are_blank.Given as goal

abbrev pub invariant-loop-item : goal.invariant-loop-item
invariant-loop-item l = list_all is_blank_item (items_seen (drop l.item-index l.items)) ≡ list_all is_blank_item (items_seen l.items)
