use Rattle.std.proofs.Common.{◌≡◌, ◌++◌, take}
use Rattle.std.specs.Prelude.{flat_map}
use Rattle.wt_datamw.specs.MwPieces.{later_part}
use Rattle.wt_datamw.proofs.mw_write.push_later_parts.Given as goal

abbrev pub invariant-loop-part : goal.invariant-loop-part
invariant-loop-part l = l.out.items ≡ l.initial.out.items ++ flat_map later_part (take l.part-index l.parts)
