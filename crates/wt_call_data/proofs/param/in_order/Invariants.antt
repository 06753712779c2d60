use Rattle.std.proofs.Common.{◌≡◌, ◌++◌, length}
use Rattle.wt_call_data.specs.CallParts.{entries_of, pairs_of}
use Rattle.wt_call_data.proofs.param.in_order.Given as goal

abbrev pub invariant-loop-name : goal.invariant-loop-name
invariant-loop-name l = pairs_of l.pairs ++ entries_of l.map ≡ entries_of l.fn.map

abbrev pub decreases-loop-name : goal.decreases-loop-name
decreases-loop-name l = length l.map.entries
