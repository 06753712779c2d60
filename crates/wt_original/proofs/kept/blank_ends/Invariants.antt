use Rattle.std.proofs.Common.{◌≡◌, ◌-◌, length, drop}
use Rattle.wt_original.specs.Kept.{are_blank_to_end}
use Rattle.wt_original.specs.Gathered.{items_seen, blank_ends}
use Rattle.wt_original.proofs.kept.blank_ends.Given as goal

abbrev pub invariant-loop-at : goal.invariant-loop-at
invariant-loop-at l = record {
  ends : l.ends.items ≡ blank_ends (items_seen (drop (length l.items - l.at) l.items));
  blank : l.blank ≡ are_blank_to_end (items_seen (drop (length l.items - l.at) l.items));
}
